use Rattle.std.proofs.Common.{None, refl}
use Rattle.bz_model.specs.declared.channel.Move.TheVariants.{Reply}
use Rattle.bz_model.specs.declared.channel.Phase.TheVariants.{Taken}
use Rattle.bz_kinds.specs.KeptLists.{chans_of}
use Rattle.bz_kinds.specs.Row.{due_of}
use Rattle.bz_kinds.proofs.OnwardLaws.{due-by, moved, waits-at}
use Rattle.bz_kinds.proofs.PlanLaws.{due-narrow, head-on-due, one-head-on, still-sends, turns}
use Rattle.bz_kinds.proofs.SureLaws.{replies}
use Rattle.bz_kinds.proofs.comp.reply.Goals as goal

pub reply-requires-clause-due : goal.reply-requires-clause-due
reply-requires-clause-due c =
    let (h, on, is) = c.requires in
    let due = head-on-due _ _ _ _ _ _ _ c.comp.view_is c.comp.invariant.0 c.args.port h on in
    let (at, (small, sensed, held), (bits, sends)) = c.comp.invariant in
    record { place = at; small = small; due = (due_of h, due, due-narrow _ _ _ _ _ _ bits at sends c.args.port (due_of h) due) }

pub reply-requires-clause-reply : goal.reply-requires-clause-reply
reply-requires-clause-reply c =
    let (h, on, is) = c.requires in
    due-by _ _ _ c.args.port _ h Reply (head-on-due _ _ _ _ _ _ _ c.comp.view_is c.comp.invariant.0 c.args.port h on) is

pub returns-clause-moves : goal.returns-clause-moves
returns-clause-moves c phase =
    replies _ _ _ _ phase _ (moved c.comp.inside.proc c.reply.new.proc c.args.port c.reply.ensures.kept c.reply.ensures.goes _ _ c.comp.view_is c.comp.invariant.0 Taken None Reply _ c.requires refl refl c.reply.ensures.made)

pub returns-clause-turns : goal.returns-clause-turns
returns-clause-turns c =
    let (h, on, is) = c.requires in
    let due = head-on-due _ _ _ _ _ _ _ c.comp.view_is c.comp.invariant.0 c.args.port h on in
    let made = c.reply.ensures.made (due_of h) due in
    rw made.move_is (rw c.reply.ensures.kept.0 (rw c.reply.ensures.kept.1
    (turns _ _ _ _ _ _ _ c.comp.view_is c.comp.invariant.0 c.args.port (due_of h) _ _ _ due c.reply.ensures.goes)))

pub returns-clause-one : goal.returns-clause-one
returns-clause-one c = one-head-on _ _ _ _ _ _ _ c.comp.view_is c.comp.invariant.0

pub returns-clause-waits : goal.returns-clause-waits
returns-clause-waits c t = waits-at c.comp.inside.proc c.reply.new.proc c.args.port c.reply.ensures.kept c.reply.ensures.goes (chans_of c.comp.inside.chans) (c.reply.ensures.waits t)

pub invariant_of-comp : goal.invariant_of-comp
invariant_of-comp c =
    let (h, on, is) = c.requires in
    let due = head-on-due _ _ _ _ _ _ _ c.comp.view_is c.comp.invariant.0 c.args.port h on in
    let (at, small, (bits, sends)) = c.comp.invariant in
    rw c.reply.ensures.kept.0 (rw c.reply.ensures.kept.1 (rw c.reply.ensures.kept.2
    (c.reply.ensures.goes.place, small, (bits, still-sends _ _ _ _ _ _ bits at sends c.args.port (due_of h) _ _ _ due c.reply.ensures.goes))))
