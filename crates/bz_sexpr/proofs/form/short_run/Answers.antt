use Rattle.std.proofs.Common.{arith}
use Rattle.bz_sexpr.proofs.Leaves.{short_told}
use Rattle.bz_sexpr.proofs.form.short_run.Goals as goal

pub returns : goal.returns
returns c = short_told _ _ c.in_ok-first.first.now _ c.in_ok-first.ensures.cases.0 (omega arith) c.short_number.ensures
