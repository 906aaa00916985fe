use Rattle.std.proofs.Common.{subst, None, length, ap}
use Rattle.bz_model.specs.declared.event.Who.{Who}
use Rattle.bz_past.specs.Owners.{LeadsWithout}
use Rattle.bz_past.specs.declared.view.Moment.{Moment}
use Rattle.bz_locked.proofs.Turning.{stands_on}
use Rattle.bz_locked.proofs.Noting.{kept_by, first_why, seen_as, seen_on, to_keeper, first_by, first_told, first_made, rest_refused}
use Rattle.bz_locked.proofs.kept.Kept.first_ready.Goals as goal

pub act-requires-clause-onward : goal.act-requires-clause-onward
act-requires-clause-onward g c =
    let was = c.args.self.now in
    let h = c.first_ready-first.ensures in
    let by = first_by was.locked.net _ was.locked.stopped _ was.keeper.now.turns c.args.who c.args.from c.first_ready-first.result h.ok h.err h.runs in
    kept_by _ _ was.keeper.now was.locked.net _ was.locked.stopped _ None was.net_is was.stopped_is c.requires.2 by

pub returns-clause-told : goal.returns-clause-told
returns-clause-told g c =
    let was = c.args.self.now in
    let h = c.first_ready-first.ensures in
    let led = to_keeper (LeadsWithout c.args.who c.args.owner.now.seen) was.keeper.now was.locked.net was.locked.stopped was.net_is was.stopped_is (subst (λ (w : Who). LeadsWithout w c.args.owner.now.seen was.keeper.now) c.requires.2 c.act.ensures.before) in
    first_told g.L.NetLedger.terms c.args.who _ _ was.locked.net _ was.locked.fuel was.locked.stopped _ was.locked.sessions.items was.keeper.now.turns None tt was.stands h.held led (seen_as _ _ was.keeper.now.turns _ _ None _ c.act.ensures.owner.2 c.requires.2) c.args.from c.first_ready-first.result h.ok h.len h.runs

pub returns-clause-made : goal.returns-clause-made
returns-clause-made g c =
    let was = c.args.self.now in
    let h = c.first_ready-first.ensures in
    let led = to_keeper (LeadsWithout c.args.who c.args.owner.now.seen) was.keeper.now was.locked.net was.locked.stopped was.net_is was.stopped_is (subst (λ (w : Who). LeadsWithout w c.args.owner.now.seen was.keeper.now) c.requires.2 c.act.ensures.before) in
    first_made g.L.NetLedger.terms c.args.who _ _ was.locked.net _ was.locked.fuel was.locked.stopped _ was.locked.sessions.items was.keeper.now.turns None tt was.stands h.held led (seen_as _ _ was.keeper.now.turns _ _ None _ c.act.ensures.owner.2 c.requires.2) c.args.from c.first_ready-first.result h.ok h.len h.err

pub returns-clause-cause : goal.returns-clause-cause
returns-clause-cause g c =
    let was = c.args.self.now in
    let h = c.first_ready-first.ensures in
    let led = to_keeper (LeadsWithout c.args.who c.args.owner.now.seen) was.keeper.now was.locked.net was.locked.stopped was.net_is was.stopped_is (subst (λ (w : Who). LeadsWithout w c.args.owner.now.seen was.keeper.now) c.requires.2 c.act.ensures.before) in
    let by = first_by was.locked.net _ was.locked.stopped _ was.keeper.now.turns c.args.who c.args.from c.first_ready-first.result h.ok h.err h.runs in
    rest_refused g.L.NetLedger.terms c.args.who _ _ was.locked.net _ was.locked.fuel was.locked.stopped _ was.locked.sessions.items was.keeper.now.turns None tt was.stands h.held led (seen_as _ _ was.keeper.now.turns _ _ None _ c.act.ensures.owner.2 c.requires.2) c.first_ready-first.result by h.resting h.cause

pub returns-clause-owner : goal.returns-clause-owner
returns-clause-owner g c =
    let was = c.args.self.now in
    let h = c.first_ready-first.ensures in
    let by = first_by was.locked.net _ was.locked.stopped _ was.keeper.now.turns c.args.who c.args.from c.first_ready-first.result h.ok h.err h.runs in
    let onward = kept_by _ _ was.keeper.now was.locked.net _ was.locked.stopped _ None was.net_is was.stopped_is c.requires.2 by in
    (c.act.ensures.owner.0, c.act.ensures.owner.1, seen_on _ _ _ _ _ _ c.act.ensures.before onward c.act.ensures.owner.2)

pub act-requires-clause-why : goal.act-requires-clause-why
act-requires-clause-why g c =
    let was = c.args.self.now in
    let h = c.first_ready-first.ensures in
    first_why was.keeper.now c.args.owner.now.who c.args.who was.locked.net was.locked.stopped _ c.requires.3 c.requires.2 was.net_is was.stopped_is c.first_ready-first.result h.runs h.cause

pub invariant_of-self-2-clause-stands : goal.invariant_of-self-2-clause-stands
invariant_of-self-2-clause-stands g c =
    let was = c.args.self.now in
    let h = c.first_ready-first.ensures in
    stands_on g.L.NetLedger.terms.sessions was.keeper.hosts was.keeper.workers (length c.first_ready-first.new.self.net.journal) c.args.owner.now.who c.args.who None was.keeper.now.turns _ was.locked.sessions.items _ was.stands (ap (λ v. v.items) h.same.1) c.act.ensures.named c.requires.2 tt (ap (λ (m : Moment). m.turns) c.act.ensures.keeper.1)
