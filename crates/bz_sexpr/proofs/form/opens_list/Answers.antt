use Rattle.std.proofs.Common.{arith}
use Rattle.std.proofs.lemmas.Bool.{eqb-false, eqb-true}
use Rattle.std.proofs.lemmas.List.{nil_from_length}
use Rattle.bz_sexpr.proofs.Laid.{list_piece}
use Rattle.bz_sexpr.proofs.Leaves.{no_list, nothing_is_no_list}
use Rattle.bz_sexpr.proofs.form.opens_list.Goals as goal

pub returns-in-Some-clause-list : goal.returns-in-Some-clause-list
returns-in-Some-clause-list c = λ e. list_piece _ _ _ c.in-Some.ensures.cases.0 (eqb-true _ _ e)

pub returns-in-Some-clause-leaf : goal.returns-in-Some-clause-leaf
returns-in-Some-clause-leaf c = λ e. no_list _ _ _ c.in-Some.ensures.cases.0 (eqb-false _ _ e)

pub returns-in-None-clause-leaf : goal.returns-in-None-clause-leaf
returns-in-None-clause-leaf c = λ e. nothing_is_no_list _ (nil_from_length _ (omega (arith, c.in-None.ensures.cases)))
