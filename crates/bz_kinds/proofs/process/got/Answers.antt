use Rattle.std.proofs.Common.{rules, ◌≡◌, ◌∙◌, ap, refl, ◌-◌, arith}
use Rattle.bz_kinds.specs.declared.row.Plan.TheVariants.{InTurn, Together}
use Rattle.bz_kinds.specs.Kept.{plan_of}
use Rattle.bz_kinds.specs.Riding.{held}
use Rattle.bz_kinds.proofs.OnwardLaws.{in-turn-at, gets-leg, in-turn-got, made-got, went, sure-of, row-got}
use Rattle.bz_kinds.proofs.ScriptOnward.{script-at, script-got}
use Rattle.bz_model.specs.Terms.{stored}
use Rattle.bz_kinds.specs.KeptLists.{slots_of}
use Rattle.bz_kinds.proofs.PlanLaws.{due-of}
use Rattle.bz_kinds.proofs.TogetherOnward.{at-once-at, went-at-once}
use Rattle.bz_kinds.specs.declared.process.Process.{Process}
use Rattle.bz_kinds.specs.Row.{leg_of}
use Rattle.bz_kinds.proofs.ChoiceTurn.{choice-goes-on, choice-got, choice-went, gets-out, mix-is, out-busy, out-is}
use Rattle.bz_kinds.proofs.MeetingTurn.{gets-behind, meet-is, meeting-got, meeting-went}
use Rattle.bz_kinds.proofs.process.got.Goals as goal

pub returns-in-CallsInTurn-clause-goes : goal.returns-in-CallsInTurn-clause-goes
returns-in-CallsInTurn-clause-goes c =
    let is = ap plan_of c.in-CallsInTurn.is in
    went _ c.args.proc.now refl _ is c.args.port _ _ _ _ (gets-leg _ _ (in-turn-at _ _ is _ _ _ _ c.requires.got)) (c.got.ensures _)

pub returns-in-CallsInTurn-clause-sure : goal.returns-in-CallsInTurn-clause-sure
returns-in-CallsInTurn-clause-sure c t = in-turn-got _ _ (ap plan_of c.in-CallsInTurn.is) _ _ _ _ _ _ _ _ c.requires.due.place c.requires.got (returns-in-CallsInTurn-clause-goes c)

pub returns-in-PushesInTurn-clause-goes : goal.returns-in-PushesInTurn-clause-goes
returns-in-PushesInTurn-clause-goes c =
    let is : plan_of c.args.proc.now.plan ≡ InTurn c.row-in-PushesInTurn.result.now = search rules in
    let own : c.in-PushesInTurn.match-proc-own.proc ≡ c.args.proc.now = search rules in
    went _ c.args.proc.now own _ is c.args.port _ _ _ _ (gets-leg _ _ (in-turn-at _ _ is _ _ _ _ c.requires.got)) (c.got-in-PushesInTurn.ensures _)

pub returns-in-PushesInTurn-clause-sure : goal.returns-in-PushesInTurn-clause-sure
returns-in-PushesInTurn-clause-sure c t =
    let is : plan_of c.args.proc.now.plan ≡ InTurn c.row-in-PushesInTurn.result.now = search rules in
    let own : c.in-PushesInTurn.match-proc-own.proc ≡ c.args.proc.now = search rules in
    sure-of _ _ own _ (in-turn-got _ _ is _ _ _ _ _ _ _ _ c.requires.due.place c.requires.got (returns-in-PushesInTurn-clause-goes c))

pub returns-in_default-clause-made : goal.returns-in_default-clause-made
returns-in_default-clause-made c = made-got c.args.proc.now c.args.port (held c.args.rides c.args.value) c.turn_far.new.proc _ _ c.requires.got c.turn_far.ensures.made

pub returns-in-OneByOne-clause-made : goal.returns-in-OneByOne-clause-made
returns-in-OneByOne-clause-made c d e =
    let is = ap plan_of c.in-OneByOne.is in
    script-got c.in-OneByOne.script c.args.port _ d (held c.args.rides c.args.value) _ _ (due-of _ _ is _ _ _ _ d e) (script-at _ _ is _ _ _ _ c.requires.got) (c.keep_riding-in-OneByOne.ensures ∙ ap (λ k. stored k (held c.args.rides c.args.value) (slots_of c.args.proc.now.slots)) c.got_into.ensures)

pub returns-in-CallsTogether-clause-goes : goal.returns-in-CallsTogether-clause-goes
returns-in-CallsTogether-clause-goes c =
    let is = ap plan_of c.in-CallsTogether.is in
    went-at-once _ c.args.proc.now refl _ is c.args.port _ _ _ _ (gets-leg _ _ (at-once-at _ _ is _ _ _ _ c.requires.got)) (c.got-in-CallsTogether.ensures _)

pub returns-in-PushesTogether-clause-goes : goal.returns-in-PushesTogether-clause-goes
returns-in-PushesTogether-clause-goes c =
    let is : plan_of c.args.proc.now.plan ≡ Together c.row.result.now = search rules in
    let own : c.in-PushesTogether.match-proc-own.proc ≡ c.args.proc.now = search rules in
    went-at-once _ c.args.proc.now own _ is c.args.port _ _ _ _ (gets-leg _ _ (at-once-at _ _ is _ _ _ _ c.requires.got)) (c.got-in-PushesTogether.ensures _)

pub returns-in-PushesTogether-clause-made : goal.returns-in-PushesTogether-clause-made
returns-in-PushesTogether-clause-made c d e =
    let is : plan_of c.args.proc.now.plan ≡ Together c.row.result.now = search rules in
    let own : c.in-PushesTogether.match-proc-own.proc ≡ c.args.proc.now = search rules in
    let same = ap (λ (it : Process). slots_of it.slots) own in
    row-got c.row.result.now c.args.port _ d (held c.args.rides c.args.value) _ _ (due-of _ _ is _ _ _ _ d e) (at-once-at _ _ is _ _ _ _ c.requires.got)
    (c.keep_riding-in-PushesTogether.ensures ∙ ap (λ k. stored k (held c.args.rides c.args.value) (slots_of c.in-PushesTogether.match-proc-own.proc.slots)) c.slot.ensures ∙ ap (stored (leg_of c.row.result.now.legs (c.args.port - 2)).into (held c.args.rides c.args.value)) same)

pub got-requires-in-Choice-clause-place : goal.got-requires-in-Choice-clause-place
got-requires-in-Choice-clause-place c = choice-goes-on c.args.proc.now c.get-in-Choice.result.now (mix-is _ _ _ c.in-Choice.is c.get-in-Choice.ensures) c.args.port c.requires.due (gets-out c.args.proc.now c.get-in-Choice.result.now (mix-is _ _ _ c.in-Choice.is c.get-in-Choice.ensures) c.args.port c.requires.due c.requires.got).0

pub returns-in-Choice-clause-made : goal.returns-in-Choice-clause-made
returns-in-Choice-clause-made c d e = choice-got c.args.proc.now c.get.result.now (mix-is _ _ _ c.in-Choice.is c.get.ensures) c.args.port c.requires.due d (held c.args.rides c.args.value) _ e c.requires.got c.keep_riding-in-Choice.ensures

pub returns-in-Choice-clause-goes : goal.returns-in-Choice-clause-goes
returns-in-Choice-clause-goes c =
    let past = (gets-out c.args.proc.now c.get-in-Choice.result.now (mix-is _ _ _ c.in-Choice.is c.get-in-Choice.ensures) c.args.port c.requires.due c.requires.got).0 in
    let busy = out-busy c.args.proc.now c.get-in-Choice.result.now (mix-is _ _ _ c.in-Choice.is c.get-in-Choice.ensures) c.args.port c.requires.due past in
    choice-went c.args.proc.now c.get-in-Choice.result.now (mix-is _ _ _ c.in-Choice.is c.get-in-Choice.ensures) c.args.port c.requires.due _ _ _ _ _ _ (omega (arith, busy)) (out-is c.args.proc.now c.get-in-Choice.result.now (mix-is _ _ _ c.in-Choice.is c.get-in-Choice.ensures) c.args.port c.requires.due past) (omega (arith, busy)) c.got-in-Choice.ensures.steps

pub returns-in-Some-clause-made : goal.returns-in-Some-clause-made
returns-in-Some-clause-made c d e = meeting-got c.args.proc.now c.get-meet.result.now (meet-is _ _ _ c.in-Meeting.is c.get-meet.ensures) c.args.port c.requires.due d c.in-Some.leg (held c.args.rides c.args.value) _ e c.requires.got c.in-Some.is c.keep_riding-in-Meeting.ensures

pub returns-in-Some-clause-goes : goal.returns-in-Some-clause-goes
returns-in-Some-clause-goes c = let (past, last, due) = gets-behind c.args.proc.now c.get-meet.result.now (meet-is _ _ _ c.in-Meeting.is c.get-meet.ensures) c.args.port c.requires.due c.requires.got in meeting-went c.args.proc.now c.get-meet.result.now (meet-is _ _ _ c.in-Meeting.is c.get-meet.ensures) c.args.port c.requires.due _ _ _ _ last c.got-in-Meeting.ensures.steps
