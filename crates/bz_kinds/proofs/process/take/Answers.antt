use Rattle.std.proofs.Common.{rules, ◌≡◌, ◌∙◌, ap, refl, sym}
use Rattle.bz_kinds.specs.declared.row.Plan.TheVariants.{InTurn, Together}
use Rattle.bz_kinds.specs.Kept.{plan_of}
use Rattle.bz_kinds.specs.Riding.{held}
use Rattle.bz_kinds.proofs.OnwardLaws.{in-turn-at, takes-one, in-turn-took, made-taken, went, sure-of, row-taken}
use Rattle.bz_kinds.proofs.ScriptOnward.{script-at, script-taken, script-went, takes-first}
use Rattle.bz_model.specs.Terms.{stored}
use Rattle.bz_kinds.specs.KeptLists.{slots_of}
use Rattle.bz_kinds.proofs.PlanLaws.{due-of}
use Rattle.bz_kinds.proofs.TogetherOnward.{at-once-at, went-at-once}
use Rattle.bz_kinds.specs.declared.process.Process.{Process}
use Rattle.bz_kinds.proofs.ChoiceTurn.{choice-first, choice-taken, choice-went, mix-is, takes-idle}
use Rattle.bz_kinds.proofs.MeetingTurn.{meet-is, meeting-taken, meeting-went, takes-member}
use Rattle.bz_kinds.proofs.MeetingTurn as meeting
use Rattle.bz_kinds.proofs.process.take.Goals as goal

pub returns-in-CallsInTurn-clause-goes : goal.returns-in-CallsInTurn-clause-goes
returns-in-CallsInTurn-clause-goes c =
    let is = ap plan_of c.in-CallsInTurn.is in
    went _ c.args.proc.now refl _ is c.args.port _ _ _ _ (takes-one _ _ (in-turn-at _ _ is _ _ _ _ c.requires.take)) (c.take.ensures _)

pub returns-in-CallsInTurn-clause-sure : goal.returns-in-CallsInTurn-clause-sure
returns-in-CallsInTurn-clause-sure c t = in-turn-took _ _ (ap plan_of c.in-CallsInTurn.is) _ _ _ _ _ _ _ _ c.requires.due.place c.requires.take (returns-in-CallsInTurn-clause-goes c)

pub returns-in-PushesInTurn-clause-goes : goal.returns-in-PushesInTurn-clause-goes
returns-in-PushesInTurn-clause-goes c =
    let is : plan_of c.args.proc.now.plan ≡ InTurn c.row-in-PushesInTurn.result.now = search rules in
    let own : c.in-PushesInTurn.match-proc-own.proc ≡ c.args.proc.now = search rules in
    went _ c.args.proc.now own _ is c.args.port _ _ _ _ (takes-one _ _ (in-turn-at _ _ is _ _ _ _ c.requires.take)) (c.take-in-PushesInTurn.ensures _)

pub returns-in-PushesInTurn-clause-sure : goal.returns-in-PushesInTurn-clause-sure
returns-in-PushesInTurn-clause-sure c t =
    let is : plan_of c.args.proc.now.plan ≡ InTurn c.row-in-PushesInTurn.result.now = search rules in
    let own : c.in-PushesInTurn.match-proc-own.proc ≡ c.args.proc.now = search rules in
    sure-of _ _ own _ (in-turn-took _ _ is _ _ _ _ _ _ _ _ c.requires.due.place c.requires.take (returns-in-PushesInTurn-clause-goes c))

pub returns-in_default-clause-made : goal.returns-in_default-clause-made
returns-in_default-clause-made c = made-taken c.args.proc.now c.args.port (held c.args.rides c.args.value) c.turn_far.new.proc _ _ c.requires.take c.turn_far.ensures.made

pub returns-in-Loop-clause-goes : goal.returns-in-Loop-clause-goes
returns-in-Loop-clause-goes c =
    let is = ap plan_of c.in-Loop.is in
    script-went c.args.proc.now _ is c.args.port _ _ _ _ (takes-first _ _ (script-at _ _ is _ _ _ _ c.requires.take)) (c.take-in-Loop.ensures.steps _)

pub returns-in-OneByOne-clause-made : goal.returns-in-OneByOne-clause-made
returns-in-OneByOne-clause-made c d e =
    let is = ap plan_of c.in-OneByOne.is in
    script-taken c.in-OneByOne.script c.args.port _ d (held c.args.rides c.args.value) _ _ (due-of _ _ is _ _ _ _ d e) (script-at _ _ is _ _ _ _ c.requires.take) (c.keep_riding-in-OneByOne.ensures ∙ ap (λ k. stored k (held c.args.rides c.args.value) (slots_of c.args.proc.now.slots)) c.taken_into.ensures)

pub returns-in-OneByOne-clause-goes : goal.returns-in-OneByOne-clause-goes
returns-in-OneByOne-clause-goes c =
    let is = ap plan_of c.in-OneByOne.is in
    script-went c.args.proc.now _ is c.args.port _ _ _ _ (takes-first _ _ (script-at _ _ is _ _ _ _ c.requires.take)) (c.take-in-OneByOne.ensures.steps _)

pub returns-in-CallsTogether-clause-goes : goal.returns-in-CallsTogether-clause-goes
returns-in-CallsTogether-clause-goes c =
    let is : plan_of c.args.proc.now.plan ≡ Together c.row.result.now = search rules in
    let own : c.in-CallsTogether.match-proc-own.proc ≡ c.args.proc.now = search rules in
    went-at-once _ c.args.proc.now own _ is c.args.port _ _ _ _ (takes-one _ _ (at-once-at _ _ is _ _ _ _ c.requires.take)) (c.take-in-CallsTogether.ensures.steps _)

pub returns-in-CallsTogether-clause-made : goal.returns-in-CallsTogether-clause-made
returns-in-CallsTogether-clause-made c d e =
    let is : plan_of c.args.proc.now.plan ≡ Together c.row.result.now = search rules in
    let own : c.in-CallsTogether.match-proc-own.proc ≡ c.args.proc.now = search rules in
    let same = ap (λ (it : Process). slots_of it.slots) own in
    row-taken c.row.result.now c.args.port _ d (held c.args.rides c.args.value) _ _ (due-of _ _ is _ _ _ _ d e) (at-once-at _ _ is _ _ _ _ c.requires.take)
    (c.keep_riding-in-CallsTogether.ensures ∙ ap (stored c.row.result.now.into (held c.args.rides c.args.value)) same)

pub take-requires-in-Meeting-clause-due : goal.take-requires-in-Meeting-clause-due
take-requires-in-Meeting-clause-due c = meeting.takes-first c.args.proc.now c.get-in-Meeting.result.now (meet-is _ _ _ c.in-Meeting.is c.get-in-Meeting.ensures) c.args.port c.requires.due c.requires.take

pub returns-in-Choice-clause-made : goal.returns-in-Choice-clause-made
returns-in-Choice-clause-made c d e = choice-taken c.args.proc.now c.get.result.now (mix-is _ _ _ c.in-Choice.is c.get.ensures) c.args.port c.requires.due d (held c.args.rides c.args.value) _ e c.requires.take c.keep_riding-in-Choice.ensures

pub returns-in-Choice-clause-goes : goal.returns-in-Choice-clause-goes
returns-in-Choice-clause-goes c =
    let one = choice-first c.args.proc.now c.get-in-Choice.result.now (mix-is _ _ _ c.in-Choice.is c.get-in-Choice.ensures) c.args.port c.requires.due in
    choice-went c.args.proc.now c.get-in-Choice.result.now (mix-is _ _ _ c.in-Choice.is c.get-in-Choice.ensures) c.args.port c.requires.due _ _ _ _ _ _ (sym (takes-idle c.args.proc.now c.get-in-Choice.result.now (mix-is _ _ _ c.in-Choice.is c.get-in-Choice.ensures) c.args.port c.requires.due c.requires.take)) (sym one) refl c.take-in-Choice.ensures.steps

pub returns-in-Meeting-clause-made : goal.returns-in-Meeting-clause-made
returns-in-Meeting-clause-made c d e = meeting-taken c.args.proc.now c.get-in-Meeting.result.now (meet-is _ _ _ c.in-Meeting.is c.get-in-Meeting.ensures) c.args.port c.requires.due d (held c.args.rides c.args.value) _ e c.requires.take (c.keep_riding-in-Meeting.ensures ∙ ap (λ k. stored k (held c.args.rides c.args.value) (slots_of c.args.proc.now.slots)) c.into.ensures)

pub returns-in-Meeting-clause-goes : goal.returns-in-Meeting-clause-goes
returns-in-Meeting-clause-goes c = let (one, in_it, due) = takes-member c.args.proc.now c.get-in-Meeting-2.result.now (meet-is _ _ _ c.in-Meeting.is c.get-in-Meeting-2.ensures) c.args.port c.requires.due c.requires.take in meeting-went c.args.proc.now c.get-in-Meeting-2.result.now (meet-is _ _ _ c.in-Meeting.is c.get-in-Meeting-2.ensures) c.args.port c.requires.due _ _ _ _ one c.take-in-Meeting.ensures
