use Rattle.std.proofs.Common.{refl}
use Rattle.bz_model.specs.declared.channel.Move.TheVariants.{Got}
use Rattle.bz_model.specs.declared.channel.Phase.TheVariants.{Replied}
use Rattle.bz_kinds.specs.KeptLists.{chans_of}
use Rattle.bz_kinds.specs.Riding.{held}
use Rattle.bz_kinds.specs.Row.{due_of}
use Rattle.bz_kinds.proofs.OnwardLaws.{due-by, moved, is-sure}
use Rattle.bz_kinds.proofs.PlanLaws.{due-narrow, head-on-due, one-head-on, still-sends, turns}
use Rattle.bz_kinds.proofs.SureLaws.{gets}
use Rattle.bz_kinds.proofs.comp.got.Goals as goal

pub got-requires-clause-due : goal.got-requires-clause-due
got-requires-clause-due c =
    let (h, on, is) = c.requires in
    let due = head-on-due _ _ _ _ _ _ _ c.comp.view_is c.comp.invariant.0 c.args.port h on in
    let (at, (small, sensed, held), (bits, sends)) = c.comp.invariant in
    record { place = at; small = small; due = (due_of h, due, due-narrow _ _ _ _ _ _ bits at sends c.args.port (due_of h) due) }

pub got-requires-clause-got : goal.got-requires-clause-got
got-requires-clause-got c =
    let (h, on, is) = c.requires in
    due-by _ _ _ c.args.port _ h Got (head-on-due _ _ _ _ _ _ _ c.comp.view_is c.comp.invariant.0 c.args.port h on) is

pub returns-clause-moves : goal.returns-clause-moves
returns-clause-moves c =
    gets _ _ _ _ _ (moved c.comp.inside.proc c.got.new.proc c.args.port c.got.ensures.kept c.got.ensures.goes _ _ c.comp.view_is c.comp.invariant.0 (Replied (held c.args.rides c.args.value)) (held c.args.rides c.args.value) Got _ c.requires refl refl c.got.ensures.made)

pub returns-clause-turns : goal.returns-clause-turns
returns-clause-turns c =
    let (h, on, is) = c.requires in
    let due = head-on-due _ _ _ _ _ _ _ c.comp.view_is c.comp.invariant.0 c.args.port h on in
    let made = c.got.ensures.made (due_of h) due in
    rw made.move_is (rw c.got.ensures.kept.0 (rw c.got.ensures.kept.1
    (turns _ _ _ _ _ _ _ c.comp.view_is c.comp.invariant.0 c.args.port (due_of h) _ _ _ due c.got.ensures.goes)))

pub returns-clause-one : goal.returns-clause-one
returns-clause-one c = one-head-on _ _ _ _ _ _ _ c.comp.view_is c.comp.invariant.0

pub returns-clause-sure : goal.returns-clause-sure
returns-clause-sure c t = is-sure c.comp.inside.proc c.got.new.proc c.args.port c.got.ensures.kept c.got.ensures.goes (chans_of c.comp.inside.chans) c.comp.invariant.1.2 (c.got.ensures.sure t)

pub invariant_of-comp : goal.invariant_of-comp
invariant_of-comp c =
    let (h, on, is) = c.requires in
    let due = head-on-due _ _ _ _ _ _ _ c.comp.view_is c.comp.invariant.0 c.args.port h on in
    let (at, small, (bits, sends)) = c.comp.invariant in
    rw c.got.ensures.kept.0 (rw c.got.ensures.kept.1 (rw c.got.ensures.kept.2
    (c.got.ensures.goes.place, small, (bits, still-sends _ _ _ _ _ _ bits at sends c.args.port (due_of h) _ _ _ due c.got.ensures.goes))))
