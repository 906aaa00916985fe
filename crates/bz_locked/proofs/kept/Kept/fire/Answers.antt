use Rattle.std.proofs.Common.{subst, None, length, ap}
use Rattle.bz_model.specs.declared.event.Who.{Who}
use Rattle.bz_locked.specs.Working.{RefusesFiring}
use Rattle.bz_past.specs.Owners.{LeadsWithout}
use Rattle.bz_past.specs.declared.view.Moment.{Moment}
use Rattle.bz_locked.proofs.Turning.{stands_on}
use Rattle.bz_locked.proofs.Noting.{kept_by, fire_why, seen_as, seen_on, to_keeper, fire_by, fire_told, fire_made, refused_so}
use Rattle.bz_locked.proofs.kept.Kept.fire.Goals as goal

pub act-requires-clause-onward : goal.act-requires-clause-onward
act-requires-clause-onward g c =
    let was = c.args.self.now in
    let h = c.fire-fired.ensures in
    let by = fire_by _ was.locked.net _ was.locked.stopped _ was.keeper.now.turns c.args.who c.args.comp c.fire-fired.result h.fired h.adds h.err h.stopped in
    kept_by _ _ was.keeper.now was.locked.net _ was.locked.stopped _ None was.net_is was.stopped_is c.requires.2 by

pub returns-clause-fired : goal.returns-clause-fired
returns-clause-fired g c =
    let was = c.args.self.now in
    let h = c.fire-fired.ensures in
    let led = to_keeper (LeadsWithout c.args.who c.args.owner.now.seen) was.keeper.now was.locked.net was.locked.stopped was.net_is was.stopped_is (subst (λ (w : Who). LeadsWithout w c.args.owner.now.seen was.keeper.now) c.requires.2 c.act.ensures.before) in
    fire_told g.L.NetLedger.terms c.args.who _ _ was.locked.net _ was.locked.fuel was.locked.stopped _ was.locked.sessions.items was.keeper.now.turns None tt was.stands h.held led (seen_as _ _ was.keeper.now.turns _ _ None _ c.act.ensures.owner.2 c.requires.2) _ c.args.comp c.fire-fired.result h.fired h.adds h.wake h.len h.fuel h.stopped

pub returns-clause-made : goal.returns-clause-made
returns-clause-made g c =
    let was = c.args.self.now in
    let h = c.fire-fired.ensures in
    let led = to_keeper (LeadsWithout c.args.who c.args.owner.now.seen) was.keeper.now was.locked.net was.locked.stopped was.net_is was.stopped_is (subst (λ (w : Who). LeadsWithout w c.args.owner.now.seen was.keeper.now) c.requires.2 c.act.ensures.before) in
    fire_made g.L.NetLedger.terms c.args.who _ _ was.locked.net _ was.locked.fuel was.locked.stopped _ was.locked.sessions.items was.keeper.now.turns None tt was.stands h.held led (seen_as _ _ was.keeper.now.turns _ _ None _ c.act.ensures.owner.2 c.requires.2) _ c.args.comp c.fire-fired.result h.fired h.adds h.len h.err

pub returns-clause-cause : goal.returns-clause-cause
returns-clause-cause g c =
    let was = c.args.self.now in
    let h = c.fire-fired.ensures in
    let led = to_keeper (LeadsWithout c.args.who c.args.owner.now.seen) was.keeper.now was.locked.net was.locked.stopped was.net_is was.stopped_is (subst (λ (w : Who). LeadsWithout w c.args.owner.now.seen was.keeper.now) c.requires.2 c.act.ensures.before) in
    let by = fire_by _ was.locked.net _ was.locked.stopped _ was.keeper.now.turns c.args.who c.args.comp c.fire-fired.result h.fired h.adds h.err h.stopped in
    refused_so g.L.NetLedger.terms c.args.who _ _ was.locked.net _ was.locked.fuel was.locked.stopped _ was.locked.sessions.items was.keeper.now.turns None tt was.stands h.held led (seen_as _ _ was.keeper.now.turns _ _ None _ c.act.ensures.owner.2 c.requires.2) (λ net fuel e. RefusesFiring net fuel c.args.comp e) c.fire-fired.result by h.cause

pub returns-clause-owner : goal.returns-clause-owner
returns-clause-owner g c =
    let was = c.args.self.now in
    let h = c.fire-fired.ensures in
    let by = fire_by _ was.locked.net _ was.locked.stopped _ was.keeper.now.turns c.args.who c.args.comp c.fire-fired.result h.fired h.adds h.err h.stopped in
    let onward = kept_by _ _ was.keeper.now was.locked.net _ was.locked.stopped _ None was.net_is was.stopped_is c.requires.2 by in
    (c.act.ensures.owner.0, c.act.ensures.owner.1, seen_on _ _ _ _ _ _ c.act.ensures.before onward c.act.ensures.owner.2)

pub act-requires-clause-why : goal.act-requires-clause-why
act-requires-clause-why g c =
    let was = c.args.self.now in
    let h = c.fire-fired.ensures in
    fire_why was.keeper.now c.args.owner.now.who c.args.who was.locked.net was.locked.stopped _ was.locked.fuel c.args.comp c.requires.3 c.requires.2 was.net_is was.stopped_is c.fire-fired.result h.stopped h.cause

pub invariant_of-self-2-clause-stands : goal.invariant_of-self-2-clause-stands
invariant_of-self-2-clause-stands g c =
    let was = c.args.self.now in
    let h = c.fire-fired.ensures in
    stands_on g.L.NetLedger.terms.sessions was.keeper.hosts was.keeper.workers (length c.fire-fired.new.self.net.journal) c.args.owner.now.who c.args.who None was.keeper.now.turns _ was.locked.sessions.items _ was.stands (ap (λ v. v.items) h.sessions) c.act.ensures.named c.requires.2 tt (ap (λ (m : Moment). m.turns) c.act.ensures.keeper.1)
