use Rattle.std.proofs.Common.{rules, sym, ◌∙◌}
use denote.Enum.Bare.{same_true}
use Rattle.bz_model.specs.contracts.operation.BinaryOp.{the_type}
use Rattle.bz_kinds.proofs.same.is_same_op.Goals as goal

pub returns : goal.returns
returns c is = same_true the_type (search rules) _ _ (sym c.eq.ensures ∙ is)
