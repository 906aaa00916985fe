use Rattle.std.proofs.Common.{sym, ap, ◌∙◌}
use Rattle.bz_past.proofs.Leading.{onward}
use Rattle.bz_locked.specs.Commands.{RefusesPoll}
use Rattle.bz_locked.specs.Parts.{SharedView}
use Rattle.bz_locked.proofs.Making.{none_none, told_after, waited}
use Rattle.bz_locked.proofs.Seeing.{ended_by, refused_by}
use Rattle.bz_locked.proofs.Turning.{begun, begun_on, waited_so, waits_still}
use Rattle.bz_locked.proofs.shared.SharedNet.wait_for.Goals as goal

pub begin-requires : goal.begin-requires
begin-requires g c =
    let past = sym (ap (λ (v : SharedView). v.table.past) c.self.view_is) ∙ c.self.invariant.0 in
    (c.self.invariant.0, c.requires.0 ∙ past, c.requires.1, c.requires.2)

pub loop-init : goal.loop-init
loop-init g c =
    let then = c.begin.ensures in
    (tt, tt, then.owner.0, then.owner.1, then.owner.2, then.made, then.turned)

pub turn-told-requires-clause-awaits : goal.turn-told-requires-clause-awaits
turn-told-requires-clause-awaits g c = begun g.L.NetLedger.terms.wiring c.args.who c.args.cmd.now c.args.owner.now.seen c.loop.owner.seen c.loop.invariant.6

pub returns-then-not-is_wait-clause-turned : goal.returns-then-not-is_wait-clause-turned
returns-then-not-is_wait-clause-turned g c =
    waited_so g.L.NetLedger.terms.wiring c.args.who c.args.cmd.now c.args.owner.now.seen c.loop.owner.seen c.turn-told.new.owner.seen c.turn-told.result (sym c.is_wait.ensures ∙ c.if-not-is_wait.true) c.loop.invariant.6 c.turn-told.ensures.turned

pub turn-told-requires-clause-caller : goal.turn-told-requires-clause-caller
turn-told-requires-clause-caller g c =
    let past = sym (ap (λ (v : SharedView). v.table.past) c.self.view_is) ∙ c.self.invariant.0 in
    (c.self.invariant.0, c.loop.invariant.2 ∙ c.requires.0 ∙ past, c.loop.invariant.3 ∙ c.requires.1, c.requires.2)

pub loop-preserved : goal.loop-preserved
loop-preserved g c =
    let inv = c.loop.invariant in
    let then = c.turn-told.ensures in
    let waits = sym c.is_wait.ensures ∙ c.if-not-is_wait.false in
    (tt, tt, then.owner.0 ∙ inv.2, then.owner.1 ∙ inv.3, onward _ _ _ inv.4 then.owner.2, none_none c.args.who _ _ _ inv.5 (waited c.args.who c.turn-told.result _ _ waits then.made), begun_on g.L.NetLedger.terms.wiring c.args.who c.args.cmd.now c.args.owner.now.seen c.loop.owner.seen c.turn-told.new.owner.seen inv.6 (waits_still c.args.who c.loop.owner.seen c.turn-told.new.owner.seen c.turn-told.result waits then.turned))

pub returns-then-not-is_wait-clause-owner : goal.returns-then-not-is_wait-clause-owner
returns-then-not-is_wait-clause-owner g c =
    let inv = c.loop.invariant in
    let then = c.turn-told.ensures in
    (then.owner.0 ∙ inv.2, then.owner.1 ∙ inv.3, onward _ _ _ inv.4 then.owner.2)

pub returns-then-not-is_wait-clause-made : goal.returns-then-not-is_wait-clause-made
returns-then-not-is_wait-clause-made g c = told_after c.args.who c.turn-told.result _ _ _ c.loop.invariant.5 c.turn-told.ensures.made

pub returns-then-not-is_wait-clause-cause : goal.returns-then-not-is_wait-clause-cause
returns-then-not-is_wait-clause-cause g c = refused_by g.L.NetLedger.terms _ _ _ (λ e net fuel stopped turns. RefusesPoll net c.args.cmd.now e) c.turn-told.result c.loop.invariant.4 c.turn-told.ensures.cause

pub returns-then-not-is_wait-clause-last : goal.returns-then-not-is_wait-clause-last
returns-then-not-is_wait-clause-last g c = ended_by g.L.NetLedger.terms _ _ _ c.args.who c.args.cmd.now c.turn-told.result (sym c.is_wait.ensures ∙ c.if-not-is_wait.true) c.loop.invariant.4 c.turn-told.ensures.told
