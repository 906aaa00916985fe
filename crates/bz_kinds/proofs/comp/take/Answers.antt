use Rattle.std.proofs.Common.{refl}
use Rattle.bz_model.specs.declared.channel.Move.TheVariants.{Take}
use Rattle.bz_model.specs.declared.channel.Phase.TheVariants.{Asked}
use Rattle.bz_kinds.specs.KeptLists.{chans_of}
use Rattle.bz_kinds.specs.Riding.{held}
use Rattle.bz_kinds.specs.Row.{due_of}
use Rattle.bz_kinds.proofs.OnwardLaws.{due-by, moved, is-sure}
use Rattle.bz_kinds.proofs.PlanLaws.{due-narrow, head-on-due, one-head-on, still-sends, turns}
use Rattle.bz_kinds.proofs.SureLaws.{takes}
use Rattle.bz_kinds.proofs.comp.take.Goals as goal

pub take-requires-clause-due : goal.take-requires-clause-due
take-requires-clause-due c =
    let (h, on, is) = c.requires in
    let due = head-on-due _ _ _ _ _ _ _ c.comp.view_is c.comp.invariant.0 c.args.port h on in
    let (at, (small, sensed, held), (bits, sends)) = c.comp.invariant in
    record { place = at; small = small; due = (due_of h, due, due-narrow _ _ _ _ _ _ bits at sends c.args.port (due_of h) due) }

pub take-requires-clause-take : goal.take-requires-clause-take
take-requires-clause-take c =
    let (h, on, is) = c.requires in
    due-by _ _ _ c.args.port _ h Take (head-on-due _ _ _ _ _ _ _ c.comp.view_is c.comp.invariant.0 c.args.port h on) is

pub returns-clause-moves : goal.returns-clause-moves
returns-clause-moves c =
    takes _ _ _ _ _ (moved c.comp.inside.proc c.take.new.proc c.args.port c.take.ensures.kept c.take.ensures.goes _ _ c.comp.view_is c.comp.invariant.0 (Asked (held c.args.rides c.args.value)) (held c.args.rides c.args.value) Take _ c.requires refl refl c.take.ensures.made)

pub returns-clause-turns : goal.returns-clause-turns
returns-clause-turns c =
    let (h, on, is) = c.requires in
    let due = head-on-due _ _ _ _ _ _ _ c.comp.view_is c.comp.invariant.0 c.args.port h on in
    let made = c.take.ensures.made (due_of h) due in
    rw made.move_is (rw c.take.ensures.kept.0 (rw c.take.ensures.kept.1
    (turns _ _ _ _ _ _ _ c.comp.view_is c.comp.invariant.0 c.args.port (due_of h) _ _ _ due c.take.ensures.goes)))

pub returns-clause-one : goal.returns-clause-one
returns-clause-one c = one-head-on _ _ _ _ _ _ _ c.comp.view_is c.comp.invariant.0

pub returns-clause-sure : goal.returns-clause-sure
returns-clause-sure c t = is-sure c.comp.inside.proc c.take.new.proc c.args.port c.take.ensures.kept c.take.ensures.goes (chans_of c.comp.inside.chans) c.comp.invariant.1.2 (c.take.ensures.sure t)

pub invariant_of-comp : goal.invariant_of-comp
invariant_of-comp c =
    let (h, on, is) = c.requires in
    let due = head-on-due _ _ _ _ _ _ _ c.comp.view_is c.comp.invariant.0 c.args.port h on in
    let (at, small, (bits, sends)) = c.comp.invariant in
    rw c.take.ensures.kept.0 (rw c.take.ensures.kept.1 (rw c.take.ensures.kept.2
    (c.take.ensures.goes.place, small, (bits, still-sends _ _ _ _ _ _ bits at sends c.args.port (due_of h) _ _ _ due c.take.ensures.goes))))
