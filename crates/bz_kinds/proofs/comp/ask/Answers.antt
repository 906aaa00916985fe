use Rattle.std.proofs.Common.{None, refl}
use Rattle.bz_model.specs.declared.channel.Move.TheVariants.{Ask}
use Rattle.bz_model.specs.declared.channel.Phase.TheVariants.{Idle}
use Rattle.bz_kinds.specs.KeptLists.{chans_of}
use Rattle.bz_kinds.specs.Row.{due_of}
use Rattle.bz_kinds.proofs.OnwardLaws.{due-by, moved, waits-at}
use Rattle.bz_kinds.proofs.PlanLaws.{due-narrow, head-on-due, one-head-on, still-sends, turns}
use Rattle.bz_kinds.proofs.SureLaws.{asks}
use Rattle.bz_kinds.proofs.comp.ask.Goals as goal

pub ask-requires-clause-due : goal.ask-requires-clause-due
ask-requires-clause-due c =
    let (h, on, is) = c.requires in
    let due = head-on-due _ _ _ _ _ _ _ c.comp.view_is c.comp.invariant.0 c.args.port h on in
    let (at, (small, sensed, held), (bits, sends)) = c.comp.invariant in
    record { place = at; small = small; due = (due_of h, due, due-narrow _ _ _ _ _ _ bits at sends c.args.port (due_of h) due) }

pub ask-requires-clause-ask : goal.ask-requires-clause-ask
ask-requires-clause-ask c =
    let (h, on, is) = c.requires in
    due-by _ _ _ c.args.port _ h Ask (head-on-due _ _ _ _ _ _ _ c.comp.view_is c.comp.invariant.0 c.args.port h on) is

pub returns-clause-moves : goal.returns-clause-moves
returns-clause-moves c phase =
    asks _ _ _ _ phase _ (moved c.comp.inside.proc c.ask.new.proc c.args.port c.ask.ensures.kept c.ask.ensures.goes _ _ c.comp.view_is c.comp.invariant.0 Idle None Ask _ c.requires refl refl c.ask.ensures.made)

pub returns-clause-turns : goal.returns-clause-turns
returns-clause-turns c =
    let (h, on, is) = c.requires in
    let due = head-on-due _ _ _ _ _ _ _ c.comp.view_is c.comp.invariant.0 c.args.port h on in
    let made = c.ask.ensures.made (due_of h) due in
    rw made.move_is (rw c.ask.ensures.kept.0 (rw c.ask.ensures.kept.1
    (turns _ _ _ _ _ _ _ c.comp.view_is c.comp.invariant.0 c.args.port (due_of h) _ _ _ due c.ask.ensures.goes)))

pub returns-clause-one : goal.returns-clause-one
returns-clause-one c = one-head-on _ _ _ _ _ _ _ c.comp.view_is c.comp.invariant.0

pub returns-clause-waits : goal.returns-clause-waits
returns-clause-waits c t = waits-at c.comp.inside.proc c.ask.new.proc c.args.port c.ask.ensures.kept c.ask.ensures.goes (chans_of c.comp.inside.chans) (c.ask.ensures.waits t)

pub invariant_of-comp : goal.invariant_of-comp
invariant_of-comp c =
    let (h, on, is) = c.requires in
    let due = head-on-due _ _ _ _ _ _ _ c.comp.view_is c.comp.invariant.0 c.args.port h on in
    let (at, small, (bits, sends)) = c.comp.invariant in
    rw c.ask.ensures.kept.0 (rw c.ask.ensures.kept.1 (rw c.ask.ensures.kept.2
    (c.ask.ensures.goes.place, small, (bits, still-sends _ _ _ _ _ _ bits at sends c.args.port (due_of h) _ _ _ due c.ask.ensures.goes))))
