use Rattle.std.proofs.Common.{arith}
use Rattle.std.proofs.lemmas.Bool.{eqb-false}
use Rattle.std.proofs.lemmas.List.{nil_from_length}
use Rattle.bz_sexpr.proofs.Leaves.{no_mark, no_run}
use Rattle.bz_sexpr.proofs.form.begins_with_mark.Goals as goal

pub returns-in-Some : goal.returns-in-Some
returns-in-Some c = λ e. no_mark _ _ _ c.in-Some.ensures.cases.0 (eqb-false _ _ e)

pub returns-in-None : goal.returns-in-None
returns-in-None c = λ e. no_run _ (nil_from_length _ (omega (arith, c.in-None.ensures.cases)))
