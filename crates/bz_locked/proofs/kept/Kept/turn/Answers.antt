use Rattle.std.proofs.Common.{◌∙◌, inl, sym, subst, length, ap, ◌≡◌}
use Rattle.bz_model.specs.declared.event.Who.{Who}
use Rattle.bz_locked.specs.Commands.{RefusesPoll}
use Rattle.bz_past.specs.Owners.{LeadsWithout}
use Rattle.bz_past.specs.Standings.{HasTurned, listed}
use Rattle.bz_locked.proofs.Turning.{may_told, stands_on, told_on}
use Rattle.bz_past.specs.declared.view.Moment.{Moment}
use Rattle.bz_locked.specs.Quiet.{with_turn}
use Rattle.bz_locked.proofs.Noting.{kept_by, seen_as, seen_on, to_keeper, turn_by, turn_told, turn_made, has_stood, refused_so}
use Rattle.bz_locked.proofs.kept.Kept.turn.Goals as goal

pub act-requires-clause-onward : goal.act-requires-clause-onward
act-requires-clause-onward g c =
    let was = c.args.self.now in
    let h = c.turn-told.ensures in
    let by = turn_by was.locked.net _ was.locked.fuel was.locked.stopped _ was.keeper.now.turns c.told_turn.result was.locked.sessions.items c.args.who (may_told c.args.who c.turn-told.result _ c.told_turn.ensures c.requires.caller.3) c.args.cmd.now c.turn-told.result c.requires.caller.3 h.same.1 h.told h.err in
    kept_by _ _ was.keeper.now was.locked.net _ was.locked.stopped _ c.told_turn.result was.net_is was.stopped_is c.requires.caller.2 by

pub returns-clause-told : goal.returns-clause-told
returns-clause-told g c =
    let was = c.args.self.now in
    let h = c.turn-told.ensures in
    let led = to_keeper (LeadsWithout c.args.who c.args.owner.now.seen) was.keeper.now was.locked.net was.locked.stopped was.net_is was.stopped_is (subst (λ (w : Who). LeadsWithout w c.args.owner.now.seen was.keeper.now) c.requires.caller.2 c.act.ensures.before) in
    turn_told g.L.NetLedger.terms c.args.who _ _ was.locked.net _ was.locked.fuel was.locked.stopped _ was.locked.sessions.items was.keeper.now.turns c.told_turn.result (may_told c.args.who c.turn-told.result _ c.told_turn.ensures c.requires.caller.3) was.stands h.held led (seen_as _ _ was.keeper.now.turns _ _ c.told_turn.result _ c.act.ensures.owner.2 c.requires.caller.2) c.args.cmd.now c.turn-told.result c.requires.caller.3 h.same.1 c.requires.awaits h.told

pub returns-clause-made : goal.returns-clause-made
returns-clause-made g c =
    let was = c.args.self.now in
    let h = c.turn-told.ensures in
    let led = to_keeper (LeadsWithout c.args.who c.args.owner.now.seen) was.keeper.now was.locked.net was.locked.stopped was.net_is was.stopped_is (subst (λ (w : Who). LeadsWithout w c.args.owner.now.seen was.keeper.now) c.requires.caller.2 c.act.ensures.before) in
    turn_made g.L.NetLedger.terms c.args.who _ _ was.locked.net _ was.locked.fuel was.locked.stopped _ was.locked.sessions.items was.keeper.now.turns c.told_turn.result (may_told c.args.who c.turn-told.result _ c.told_turn.ensures c.requires.caller.3) was.stands h.held led (seen_as _ _ was.keeper.now.turns _ _ c.told_turn.result _ c.act.ensures.owner.2 c.requires.caller.2) c.args.cmd.now c.turn-told.result h.told h.err

pub returns-clause-cause : goal.returns-clause-cause
returns-clause-cause g c =
    let was = c.args.self.now in
    let h = c.turn-told.ensures in
    let led = to_keeper (LeadsWithout c.args.who c.args.owner.now.seen) was.keeper.now was.locked.net was.locked.stopped was.net_is was.stopped_is (subst (λ (w : Who). LeadsWithout w c.args.owner.now.seen was.keeper.now) c.requires.caller.2 c.act.ensures.before) in
    let by = turn_by was.locked.net _ was.locked.fuel was.locked.stopped _ was.keeper.now.turns c.told_turn.result was.locked.sessions.items c.args.who (may_told c.args.who c.turn-told.result _ c.told_turn.ensures c.requires.caller.3) c.args.cmd.now c.turn-told.result c.requires.caller.3 h.same.1 h.told h.err in
    refused_so g.L.NetLedger.terms c.args.who _ _ was.locked.net _ was.locked.fuel was.locked.stopped _ was.locked.sessions.items was.keeper.now.turns c.told_turn.result (may_told c.args.who c.turn-told.result _ c.told_turn.ensures c.requires.caller.3) was.stands h.held led (seen_as _ _ was.keeper.now.turns _ _ c.told_turn.result _ c.act.ensures.owner.2 c.requires.caller.2) (λ net fuel e. RefusesPoll net c.args.cmd.now e) c.turn-told.result by h.cause

pub returns-clause-owner : goal.returns-clause-owner
returns-clause-owner g c =
    let was = c.args.self.now in
    let h = c.turn-told.ensures in
    let by = turn_by was.locked.net _ was.locked.fuel was.locked.stopped _ was.keeper.now.turns c.told_turn.result was.locked.sessions.items c.args.who (may_told c.args.who c.turn-told.result _ c.told_turn.ensures c.requires.caller.3) c.args.cmd.now c.turn-told.result c.requires.caller.3 h.same.1 h.told h.err in
    let onward = kept_by _ _ was.keeper.now was.locked.net _ was.locked.stopped _ c.told_turn.result was.net_is was.stopped_is c.requires.caller.2 by in
    (c.act.ensures.owner.0, c.act.ensures.owner.1, seen_on _ _ _ _ _ _ c.act.ensures.before onward c.act.ensures.owner.2)

pub act-requires-clause-why : goal.act-requires-clause-why
act-requires-clause-why g c = λ s. inl (c.args.self.now.stopped_is ∙ sym c.turn-told.ensures.same.1 ∙ s)

pub returns-clause-turned : goal.returns-clause-turned
returns-clause-turned g c =
    let was = c.args.self.now in
    let h = c.turn-told.ensures in
    let led = to_keeper (LeadsWithout c.args.who c.args.owner.now.seen) was.keeper.now was.locked.net was.locked.stopped was.net_is was.stopped_is (subst (λ (w : Who). LeadsWithout w c.args.owner.now.seen was.keeper.now) c.requires.caller.2 c.act.ensures.before) in
    subst (λ o. HasTurned c.args.who (listed o) c.args.owner.now.seen c.act.new.owner.seen) c.told_turn.ensures (has_stood g.L.NetLedger.terms c.args.who _ _ was.locked.net _ was.locked.fuel was.locked.stopped _ was.locked.sessions.items was.keeper.now.turns c.told_turn.result (may_told c.args.who c.turn-told.result _ c.told_turn.ensures c.requires.caller.3) was.stands h.held led (seen_as _ _ was.keeper.now.turns _ _ c.told_turn.result _ c.act.ensures.owner.2 c.requires.caller.2))

pub invariant_of-self-2-clause-stands : goal.invariant_of-self-2-clause-stands
invariant_of-self-2-clause-stands g c =
    let was = c.args.self.now in
    let h = c.turn-told.ensures in
    stands_on g.L.NetLedger.terms.sessions was.keeper.hosts was.keeper.workers (length c.turn-told.new.self.net.journal) c.args.owner.now.who c.args.who c.told_turn.result was.keeper.now.turns _ was.locked.sessions.items _ was.stands (subst (λ o. c.turn-told.new.self.sessions.items ≡ with_turn was.locked.sessions.items c.args.who o) (sym c.told_turn.ensures) (told_on was.locked.sessions.items c.turn-told.new.self.sessions.items c.args.who c.turn-told.result h.runs)) c.act.ensures.named c.requires.caller.2 (may_told c.args.who c.turn-told.result _ c.told_turn.ensures c.requires.caller.3) (ap (λ (m : Moment). m.turns) c.act.ensures.keeper.1)
