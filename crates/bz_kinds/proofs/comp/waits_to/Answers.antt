use Rattle.std.proofs.Common.{ap, arith}
use Rattle.std.proofs.lemmas.Bool.{eqb-true}
use Rattle.bz_kinds.specs.Kept.{plan_of, row_of, mix_of, meet_of}
use Rattle.bz_kinds.specs.declared.kept.KeptRow.TheVariants as kept
use Rattle.bz_kinds.proofs.WaitingLaws.{choice_only, meeting_only, together_only}
use Rattle.bz_kinds.proofs.comp.waits_to.Goals as goal

pub returns-in-Choice-clause-waits : goal.returns-in-Choice-clause-waits
returns-in-Choice-clause-waits c p here le lt can =
    choice_only _ _ _ _ _ _ _ c.comp.view_is c.comp.invariant.0 (mix_of c.in-Choice.field-0) (ap plan_of c.in-Choice.is) (eqb-true c.comp.inside.proc.left 0 (c.past_all_if.ensures.only (omega (arith, le, lt)))) p here can

pub returns-in-Meeting-clause-waits : goal.returns-in-Meeting-clause-waits
returns-in-Meeting-clause-waits c p here le lt can =
    meeting_only _ _ _ _ _ _ _ c.comp.view_is c.comp.invariant.0 (meet_of c.in-Meeting.field-0) (ap plan_of c.in-Meeting.is) (c.only_takes.ensures (c.past_all_if-in-Meeting.ensures.only (omega (arith, le, lt)))) p here can

pub returns-in-CallsTogether-clause-waits : goal.returns-in-CallsTogether-clause-waits
returns-in-CallsTogether-clause-waits c p here le lt can =
    together_only _ _ _ _ _ _ _ c.comp.view_is c.comp.invariant.0 (row_of kept.Calls) (ap plan_of c.in-CallsTogether.is) p here (omega (arith, le, c.requires)) (c.next_to_open.ensures.passed p le lt) can

pub returns-in-PushesTogether-clause-waits : goal.returns-in-PushesTogether-clause-waits
returns-in-PushesTogether-clause-waits c p here le lt can =
    together_only _ _ _ _ _ _ _ c.comp.view_is c.comp.invariant.0 (row_of kept.Pushes) (ap plan_of c.in-PushesTogether.is) p here (omega (arith, le, c.requires)) (c.next_to_open-in-PushesTogether.ensures.passed p le lt) can

pub returns-in-OwnTogether-clause-waits : goal.returns-in-OwnTogether-clause-waits
returns-in-OwnTogether-clause-waits c p here le lt can =
    together_only _ _ _ _ _ _ _ c.comp.view_is c.comp.invariant.0 c.in-OwnTogether.field-0.value (ap plan_of c.in-OwnTogether.is) p here (omega (arith, le, c.requires)) (c.next_to_open-in-OwnTogether.ensures.passed p le lt) can
