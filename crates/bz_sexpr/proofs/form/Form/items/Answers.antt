use Rattle.std.proofs.Common.{ap, ◌∙◌}
use Rattle.bz_sexpr.specs.Forms.{items_in}
use Rattle.bz_sexpr.proofs.form.Form.items.Goals as goal

pub returns-in-Datum : goal.returns-in-Datum
returns-in-Datum c = c.items.ensures _ ∙ ap items_in c.shape.ensures
