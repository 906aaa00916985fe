use Rattle.std.proofs.Common.{rules, ◌≡◌, ◌∙◌, None, ap, refl, sym}
use Rattle.bz_model.specs.declared.channel.Move.TheVariants.{Reply}
use Rattle.bz_kinds.specs.declared.process.Process.{Process}
use Rattle.bz_kinds.specs.declared.row.Plan.TheVariants.{InTurn, Together}
use Rattle.bz_kinds.specs.Kept.{plan_of}
use Rattle.bz_model.specs.Terms.{value_of}
use Rattle.bz_kinds.specs.KeptLists.{slots_of}
use Rattle.bz_kinds.proofs.PlanLaws.{due-of}
use Rattle.bz_kinds.proofs.OnwardLaws.{row-replied, in-turn-at, replies-one, in-turn-replied, made-as, went, waits-of}
use Rattle.bz_kinds.proofs.ScriptOnward.{replies-first, script-at, script-replied, script-went}
use Rattle.bz_kinds.proofs.TogetherOnward.{at-once-at, went-at-once}
use Rattle.bz_model.specs.declared.expr.Expr.{Expr}
use Rattle.bz_kinds.proofs.ChoiceTurn.{choice-first, choice-is-chosen, choice-replied, choice-went, mix-is, replies-chosen}
use Rattle.bz_kinds.proofs.MeetingTurn.{meet-is, meeting-replied, meeting-went, replies-member}
use Rattle.bz_kinds.proofs.MeetingTurn as meeting
use Rattle.bz_kinds.proofs.process.reply.Goals as goal

pub returns-in-CallsInTurn-clause-goes : goal.returns-in-CallsInTurn-clause-goes
returns-in-CallsInTurn-clause-goes c =
    let is = ap plan_of c.in-CallsInTurn.is in
    went _ c.args.proc.now refl _ is c.args.port _ _ _ _ (replies-one _ _ (in-turn-at _ _ is _ _ _ _ c.requires.reply)) (c.reply.ensures _)

pub returns-in-CallsInTurn-clause-waits : goal.returns-in-CallsInTurn-clause-waits
returns-in-CallsInTurn-clause-waits c t = in-turn-replied _ _ (ap plan_of c.in-CallsInTurn.is) _ _ _ _ _ _ _ _ c.requires.due.place c.requires.reply (returns-in-CallsInTurn-clause-goes c)

pub returns-in-PushesInTurn-clause-goes : goal.returns-in-PushesInTurn-clause-goes
returns-in-PushesInTurn-clause-goes c =
    let is : plan_of c.args.proc.now.plan ≡ InTurn c.row-in-PushesInTurn.result.now = search rules in
    let own : c.in-PushesInTurn.match-proc-own.proc ≡ c.args.proc.now = search rules in
    went _ c.args.proc.now own _ is c.args.port _ _ _ _ (replies-one _ _ (in-turn-at _ _ is _ _ _ _ c.requires.reply)) (c.reply-in-PushesInTurn.ensures _)

pub returns-in-PushesInTurn-clause-waits : goal.returns-in-PushesInTurn-clause-waits
returns-in-PushesInTurn-clause-waits c t =
    let is : plan_of c.args.proc.now.plan ≡ InTurn c.row-in-PushesInTurn.result.now = search rules in
    let own : c.in-PushesInTurn.match-proc-own.proc ≡ c.args.proc.now = search rules in
    waits-of _ _ own _ c.args.port (in-turn-replied _ _ is _ _ _ _ _ _ _ _ c.requires.due.place c.requires.reply (returns-in-PushesInTurn-clause-goes c))

pub returns-in_default-clause-made : goal.returns-in_default-clause-made
returns-in_default-clause-made c = made-as c.args.proc.now c.args.port None c.turn_far.new.proc Reply _ _ c.requires.reply c.turn_far.ensures.made

pub returns-in-PushesInTurn-clause-made : goal.returns-in-PushesInTurn-clause-made
returns-in-PushesInTurn-clause-made c d e =
    let is : plan_of c.args.proc.now.plan ≡ InTurn c.row-in-PushesInTurn.result.now = search rules in
    let own : c.in-PushesInTurn.match-proc-own.proc ≡ c.args.proc.now = search rules in
    let same = ap (λ (it : Process). slots_of it.slots) own in
    row-replied c.row-in-PushesInTurn.result.now c.args.port _ d None _ _ _ (due-of _ _ is _ _ _ _ d e) (in-turn-at _ _ is _ _ _ _ c.requires.reply)
    (c.worth-in-PushesInTurn.ensures ∙ ap (value_of c.row-in-PushesInTurn.result.now.answer) same) same

pub returns-in-OneByOne-clause-made : goal.returns-in-OneByOne-clause-made
returns-in-OneByOne-clause-made c d e =
    let is = ap plan_of c.in-OneByOne.is in
    script-replied c.in-OneByOne.script c.args.port _ d None _ (due-of _ _ is _ _ _ _ d e) (script-at _ _ is _ _ _ _ c.requires.reply)

pub returns-in-OneByOne-clause-goes : goal.returns-in-OneByOne-clause-goes
returns-in-OneByOne-clause-goes c =
    let is = ap plan_of c.in-OneByOne.is in
    script-went c.args.proc.now _ is c.args.port _ _ _ _ (replies-first _ _ (script-at _ _ is _ _ _ _ c.requires.reply)) (c.reply-in-OneByOne.ensures.steps _)

pub returns-in-CallsTogether-clause-goes : goal.returns-in-CallsTogether-clause-goes
returns-in-CallsTogether-clause-goes c =
    let is : plan_of c.args.proc.now.plan ≡ Together c.row.result.now = search rules in
    let own : c.in-CallsTogether.match-proc-own.proc ≡ c.args.proc.now = search rules in
    went-at-once _ c.args.proc.now own _ is c.args.port _ _ _ _ (replies-one _ _ (at-once-at _ _ is _ _ _ _ c.requires.reply)) (c.reply-in-CallsTogether.ensures.steps _)

pub returns-in-CallsTogether-clause-made : goal.returns-in-CallsTogether-clause-made
returns-in-CallsTogether-clause-made c d e =
    let is : plan_of c.args.proc.now.plan ≡ Together c.row.result.now = search rules in
    let own : c.in-CallsTogether.match-proc-own.proc ≡ c.args.proc.now = search rules in
    let same = ap (λ (it : Process). slots_of it.slots) own in
    row-replied c.row.result.now c.args.port _ d None _ _ _ (due-of _ _ is _ _ _ _ d e) (at-once-at _ _ is _ _ _ _ c.requires.reply)
    (c.worth-in-CallsTogether.ensures ∙ ap (value_of c.row.result.now.answer) same) same

pub reply-requires-in-Choice-clause-place : goal.reply-requires-in-Choice-clause-place
reply-requires-in-Choice-clause-place c = choice-is-chosen c.args.proc.now c.get.result.now (mix-is _ _ _ c.in-Choice.is c.get.ensures) c.args.port c.requires.due c.requires.reply

pub reply-requires-in-Meeting-clause-due : goal.reply-requires-in-Meeting-clause-due
reply-requires-in-Meeting-clause-due c = meeting.replies-first c.args.proc.now c.get-in-Meeting.result.now (meet-is _ _ _ c.in-Meeting.is c.get-in-Meeting.ensures) c.args.port c.requires.due c.requires.reply

pub returns-in-Choice-clause-made : goal.returns-in-Choice-clause-made
returns-in-Choice-clause-made c d e = choice-replied c.args.proc.now c.get-in-Choice.result.now (mix-is _ _ _ c.in-Choice.is c.get-in-Choice.ensures) c.args.port c.requires.due d _ e c.requires.reply c.worth.ensures

pub returns-in-Choice-clause-goes : goal.returns-in-Choice-clause-goes
returns-in-Choice-clause-goes c =
    let one = choice-first c.args.proc.now c.get.result.now (mix-is _ _ _ c.in-Choice.is c.get.ensures) c.args.port c.requires.due in
    choice-went c.args.proc.now c.get.result.now (mix-is _ _ _ c.in-Choice.is c.get.ensures) c.args.port c.requires.due _ _ _ _ _ _ (sym one ∙ sym (replies-chosen c.args.proc.now c.get.result.now (mix-is _ _ _ c.in-Choice.is c.get.ensures) c.args.port c.requires.due c.requires.reply)) (sym one) refl c.reply-in-Choice.ensures

pub returns-in-Meeting-clause-made : goal.returns-in-Meeting-clause-made
returns-in-Meeting-clause-made c d e = meeting-replied c.args.proc.now c.get-in-Meeting-2.result.now (meet-is _ _ _ c.in-Meeting.is c.get-in-Meeting-2.ensures) c.args.port c.requires.due d _ e c.requires.reply (c.worth-in-Meeting.ensures ∙ ap (λ (it : Expr). value_of it (slots_of c.args.proc.now.slots)) c.answer-answer.ensures)

pub returns-in-Meeting-clause-goes : goal.returns-in-Meeting-clause-goes
returns-in-Meeting-clause-goes c = let (one, in_it, due) = replies-member c.args.proc.now c.get-in-Meeting.result.now (meet-is _ _ _ c.in-Meeting.is c.get-in-Meeting.ensures) c.args.port c.requires.due c.requires.reply in meeting-went c.args.proc.now c.get-in-Meeting.result.now (meet-is _ _ _ c.in-Meeting.is c.get-in-Meeting.ensures) c.args.port c.requires.due _ _ _ _ one c.reply-in-Meeting.ensures
