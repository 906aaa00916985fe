use Rattle.std.proofs.Common.{sym, ap, ◌∙◌}
use Rattle.bz_sexpr.specs.Nodes.{leaf_in}
use Rattle.bz_sexpr.proofs.Leaves.{items_of_list}
use Rattle.bz_sexpr.proofs.form.NodeForm.items.Goals as goal

pub returns-then-opens_list : goal.returns-then-opens_list
returns-then-opens_list c = items_of_list _ _ _ (ap leaf_in (sym c.piece.ensures) ∙ c.opens_list.ensures.list c.if-opens_list.true)
