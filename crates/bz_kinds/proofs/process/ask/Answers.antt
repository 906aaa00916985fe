use Rattle.std.proofs.Common.{rules, ◌≡◌, ◌∙◌, ◌-◌, None, ap, refl, subst, arith}
use Rattle.bz_model.specs.declared.channel.Move.TheVariants.{Ask}
use Rattle.bz_kinds.specs.declared.process.Process.{Process}
use Rattle.bz_kinds.specs.declared.row.Plan.TheVariants.{InTurn, Together}
use Rattle.bz_kinds.specs.declared.kept.KeptRow.TheVariants.{Calls}
use Rattle.bz_kinds.specs.Kept.{plan_of, row_of}
use Rattle.bz_model.specs.declared.expr.Expr.{Expr}
use Rattle.bz_model.specs.Terms.{value_of}
use Rattle.bz_kinds.specs.KeptLists.{slots_of}
use Rattle.bz_kinds.specs.Row.{leg_of}
use Rattle.bz_kinds.proofs.PlanLaws.{due-of}
use Rattle.bz_kinds.proofs.OnwardLaws.{row-asked, in-turn-at, asks-leg, in-turn-asked, made-as, went, waits-of}
use Rattle.bz_kinds.proofs.ScriptOnward.{loop-asks, script-asked, script-at, script-went}
use Rattle.bz_kinds.specs.Comp.{IsAt}
use Rattle.bz_kinds.specs.declared.row.Plan.{Plan}
use Rattle.bz_kinds.specs.declared.row.Script.TheVariants.{Loop}
use Rattle.bz_kinds.proofs.TogetherOnward.{at-once-at, went-at-once}
use Rattle.bz_kinds.proofs.ChoiceTurn.{asks-out, choice-goes-on, choice-waits, choice-went, mix-is, out-busy, out-is}
use Rattle.bz_kinds.proofs.MeetingTurn.{asks-behind, meet-is, meeting-asked, meeting-waits, meeting-went}
use Rattle.bz_kinds.proofs.process.ask.Goals as goal

pub returns-in-CallsInTurn-clause-goes : goal.returns-in-CallsInTurn-clause-goes
returns-in-CallsInTurn-clause-goes c =
    let is = ap plan_of c.in-CallsInTurn.is in
    went _ c.args.proc.now refl _ is c.args.port _ _ _ _ (asks-leg _ _ (in-turn-at _ _ is _ _ _ _ c.requires.ask)) (c.ask.ensures _)

pub returns-in-CallsInTurn-clause-waits : goal.returns-in-CallsInTurn-clause-waits
returns-in-CallsInTurn-clause-waits c t = in-turn-asked _ _ (ap plan_of c.in-CallsInTurn.is) _ _ _ _ _ _ _ _ c.requires.due.place c.requires.ask (returns-in-CallsInTurn-clause-goes c)

pub returns-in-PushesInTurn-clause-goes : goal.returns-in-PushesInTurn-clause-goes
returns-in-PushesInTurn-clause-goes c =
    let is : plan_of c.args.proc.now.plan ≡ InTurn c.row-in-PushesInTurn.result.now = search rules in
    let own : c.in-PushesInTurn.match-proc-own.proc ≡ c.args.proc.now = search rules in
    went _ c.args.proc.now own _ is c.args.port _ _ _ _ (asks-leg _ _ (in-turn-at _ _ is _ _ _ _ c.requires.ask)) (c.ask-in-PushesInTurn.ensures _)

pub returns-in-PushesInTurn-clause-waits : goal.returns-in-PushesInTurn-clause-waits
returns-in-PushesInTurn-clause-waits c t =
    let is : plan_of c.args.proc.now.plan ≡ InTurn c.row-in-PushesInTurn.result.now = search rules in
    let own : c.in-PushesInTurn.match-proc-own.proc ≡ c.args.proc.now = search rules in
    waits-of _ _ own _ c.args.port (in-turn-asked _ _ is _ _ _ _ _ _ _ _ c.requires.due.place c.requires.ask (returns-in-PushesInTurn-clause-goes c))

pub returns-in_default-clause-made : goal.returns-in_default-clause-made
returns-in_default-clause-made c = made-as c.args.proc.now c.args.port None c.turn_far.new.proc Ask _ _ c.requires.ask c.turn_far.ensures.made

pub returns-in-PushesInTurn-clause-made : goal.returns-in-PushesInTurn-clause-made
returns-in-PushesInTurn-clause-made c d e =
    let is : plan_of c.args.proc.now.plan ≡ InTurn c.row-in-PushesInTurn.result.now = search rules in
    let own : c.in-PushesInTurn.match-proc-own.proc ≡ c.args.proc.now = search rules in
    let same = ap (λ (it : Process). slots_of it.slots) own in
    row-asked c.row-in-PushesInTurn.result.now c.args.port _ d None _ _ _ (due-of _ _ is _ _ _ _ d e) (in-turn-at _ _ is _ _ _ _ c.requires.ask)
    (c.worth-in-PushesInTurn.ensures ∙ ap (λ (it : Expr). value_of it (slots_of c.in-PushesInTurn.match-proc-own.proc.slots)) c.gives-in-PushesInTurn.ensures ∙ ap (value_of (leg_of c.row-in-PushesInTurn.result.now.legs (c.args.port - 2)).gives) same) same

pub returns-in-Loop-clause-goes : goal.returns-in-Loop-clause-goes
returns-in-Loop-clause-goes c =
    let is = ap plan_of c.in-Loop.is in
    script-went c.args.proc.now Loop is c.args.port _ _ _ _ (loop-asks _ _ _ (subst (λ (q : Plan). IsAt q c.args.proc.now.size c.args.proc.now.left c.args.proc.now.ports (slots_of c.args.proc.now.slots)) is c.requires.due.place) (script-at _ _ is _ _ _ _ c.requires.ask)) (c.ask-in-Loop.ensures.steps _)

pub returns-in-OneByOne-clause-made : goal.returns-in-OneByOne-clause-made
returns-in-OneByOne-clause-made c d e =
    let is = ap plan_of c.in-OneByOne.is in
    script-asked c.in-OneByOne.script c.args.port _ d None _ (due-of _ _ is _ _ _ _ d e) (script-at _ _ is _ _ _ _ c.requires.ask)

pub returns-in-OneByOne-clause-goes : goal.returns-in-OneByOne-clause-goes
returns-in-OneByOne-clause-goes c = script-went c.args.proc.now _ (ap plan_of c.in-OneByOne.is) c.args.port _ _ _ _ refl (c.ask-in-OneByOne.ensures.steps _)

pub returns-in-CallsTogether-clause-goes : goal.returns-in-CallsTogether-clause-goes
returns-in-CallsTogether-clause-goes c =
    let is = ap plan_of c.in-CallsTogether.is in
    went-at-once _ c.args.proc.now refl _ is c.args.port _ _ _ _ (asks-leg _ _ (at-once-at _ _ is _ _ _ _ c.requires.ask)) (c.ask-in-CallsTogether.ensures _)

pub returns-in-CallsTogether-clause-made : goal.returns-in-CallsTogether-clause-made
returns-in-CallsTogether-clause-made c d e =
    let is = ap plan_of c.in-CallsTogether.is in
    row-asked (row_of Calls) c.args.port _ d None _ _ None (due-of _ _ is _ _ _ _ d e) (at-once-at _ _ is _ _ _ _ c.requires.ask) refl refl

pub returns-in-PushesTogether-clause-goes : goal.returns-in-PushesTogether-clause-goes
returns-in-PushesTogether-clause-goes c =
    let is : plan_of c.args.proc.now.plan ≡ Together c.row.result.now = search rules in
    let own : c.in-PushesTogether.match-proc-own.proc ≡ c.args.proc.now = search rules in
    went-at-once _ c.args.proc.now own _ is c.args.port _ _ _ _ (asks-leg _ _ (at-once-at _ _ is _ _ _ _ c.requires.ask)) (c.ask-in-PushesTogether.ensures _)

pub returns-in-PushesTogether-clause-made : goal.returns-in-PushesTogether-clause-made
returns-in-PushesTogether-clause-made c d e =
    let is : plan_of c.args.proc.now.plan ≡ Together c.row.result.now = search rules in
    let own : c.in-PushesTogether.match-proc-own.proc ≡ c.args.proc.now = search rules in
    let same = ap (λ (it : Process). slots_of it.slots) own in
    row-asked c.row.result.now c.args.port _ d None _ _ _ (due-of _ _ is _ _ _ _ d e) (at-once-at _ _ is _ _ _ _ c.requires.ask)
    (c.worth-in-PushesTogether.ensures ∙ ap (λ (it : Expr). value_of it (slots_of c.in-PushesTogether.match-proc-own.proc.slots)) c.gives.ensures ∙ ap (value_of (leg_of c.row.result.now.legs (c.args.port - 2)).gives) same) same

pub ask-requires-in-Choice-clause-place : goal.ask-requires-in-Choice-clause-place
ask-requires-in-Choice-clause-place c = choice-goes-on c.args.proc.now c.get.result.now (mix-is _ _ _ c.in-Choice.is c.get.ensures) c.args.port c.requires.due (asks-out c.args.proc.now c.get.result.now (mix-is _ _ _ c.in-Choice.is c.get.ensures) c.args.port c.requires.due c.requires.ask).0

pub returns-in-Choice-clause-goes : goal.returns-in-Choice-clause-goes
returns-in-Choice-clause-goes c =
    let past = (asks-out c.args.proc.now c.get.result.now (mix-is _ _ _ c.in-Choice.is c.get.ensures) c.args.port c.requires.due c.requires.ask).0 in
    let busy = out-busy c.args.proc.now c.get.result.now (mix-is _ _ _ c.in-Choice.is c.get.ensures) c.args.port c.requires.due past in
    choice-went c.args.proc.now c.get.result.now (mix-is _ _ _ c.in-Choice.is c.get.ensures) c.args.port c.requires.due _ _ _ _ _ _ (omega (arith, busy)) (out-is c.args.proc.now c.get.result.now (mix-is _ _ _ c.in-Choice.is c.get.ensures) c.args.port c.requires.due past) (omega (arith, busy)) c.ask-in-Choice.ensures.steps

pub returns-in-Choice-clause-waits : goal.returns-in-Choice-clause-waits
returns-in-Choice-clause-waits c t = choice-waits c.args.proc.now c.get.result.now (mix-is _ _ _ c.in-Choice.is c.get.ensures) c.args.port c.requires.due (asks-out c.args.proc.now c.get.result.now (mix-is _ _ _ c.in-Choice.is c.get.ensures) c.args.port c.requires.due c.requires.ask).0 _ c.ask-in-Choice.ensures.waits

pub returns-in-Some-clause-made : goal.returns-in-Some-clause-made
returns-in-Some-clause-made c d e = meeting-asked c.args.proc.now c.get-meet.result.now (meet-is _ _ _ c.in-Meeting.is c.get-meet.ensures) c.args.port c.requires.due d c.in-Some.leg _ e c.requires.ask c.in-Some.is c.worth-in-Meeting.ensures

pub returns-in-Some-clause-goes : goal.returns-in-Some-clause-goes
returns-in-Some-clause-goes c = let (past, last, due) = asks-behind c.args.proc.now c.get-meet.result.now (meet-is _ _ _ c.in-Meeting.is c.get-meet.ensures) c.args.port c.requires.due c.requires.ask in meeting-went c.args.proc.now c.get-meet.result.now (meet-is _ _ _ c.in-Meeting.is c.get-meet.ensures) c.args.port c.requires.due _ _ _ _ last c.ask-in-Meeting.ensures.steps

pub returns-in-Some-clause-waits : goal.returns-in-Some-clause-waits
returns-in-Some-clause-waits c t = let (past, last, due) = asks-behind c.args.proc.now c.get-meet.result.now (meet-is _ _ _ c.in-Meeting.is c.get-meet.ensures) c.args.port c.requires.due c.requires.ask in meeting-waits c.args.proc.now c.get-meet.result.now (meet-is _ _ _ c.in-Meeting.is c.get-meet.ensures) c.args.port c.requires.due _ _ last c.ask-in-Meeting.ensures.waits
