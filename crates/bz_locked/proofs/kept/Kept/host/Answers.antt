use Rattle.std.proofs.Common.{◌∙◌, Some, inl, sym, subst, length, ap}
use Rattle.bz_model.specs.declared.event.Who.{Who}
use Rattle.bz_net.specs.Replies.{RefusesCommand}
use Rattle.bz_past.specs.Owners.{LeadsWithout}
use Rattle.bz_past.specs.declared.standing.Standing.TheVariants.{Running}
use Rattle.bz_past.specs.declared.view.Moment.{Moment}
use Rattle.bz_locked.proofs.Turning.{stands_on}
use Rattle.bz_locked.proofs.Noting.{kept_by, seen_as, seen_on, to_keeper, host_by, host_added, host_made, has_stood, refused_so}
use Rattle.bz_locked.proofs.kept.Kept.host.Goals as goal

pub act-requires-clause-onward : goal.act-requires-clause-onward
act-requires-clause-onward g c =
    let was = c.args.self.now in
    let h = c.host-answered.ensures in
    let by = host_by _ c.args.who c.args.cmd.now was.locked.net _ was.locked.stopped _ was.keeper.now.turns (Some Running) c.requires.3 c.host-answered.result c.requires.3 h.same.1 h.entry h.adds h.err in
    kept_by _ _ was.keeper.now was.locked.net _ was.locked.stopped _ (Some Running) was.net_is was.stopped_is c.requires.2 by

pub returns-clause-added : goal.returns-clause-added
returns-clause-added g c =
    let was = c.args.self.now in
    let h = c.host-answered.ensures in
    let led = to_keeper (LeadsWithout c.args.who c.args.owner.now.seen) was.keeper.now was.locked.net was.locked.stopped was.net_is was.stopped_is (subst (λ (w : Who). LeadsWithout w c.args.owner.now.seen was.keeper.now) c.requires.2 c.act.ensures.before) in
    host_added g.L.NetLedger.terms c.args.who _ _ was.locked.net _ was.locked.fuel was.locked.stopped _ was.locked.sessions.items was.keeper.now.turns (Some Running) c.requires.3 was.stands h.held led (seen_as _ _ was.keeper.now.turns _ _ (Some Running) _ c.act.ensures.owner.2 c.requires.2) _ c.args.cmd.now c.host-answered.result c.requires.3 h.same.1 h.entry h.adds h.len

pub returns-clause-made : goal.returns-clause-made
returns-clause-made g c =
    let was = c.args.self.now in
    let h = c.host-answered.ensures in
    let led = to_keeper (LeadsWithout c.args.who c.args.owner.now.seen) was.keeper.now was.locked.net was.locked.stopped was.net_is was.stopped_is (subst (λ (w : Who). LeadsWithout w c.args.owner.now.seen was.keeper.now) c.requires.2 c.act.ensures.before) in
    host_made g.L.NetLedger.terms c.args.who _ _ was.locked.net _ was.locked.fuel was.locked.stopped _ was.locked.sessions.items was.keeper.now.turns (Some Running) c.requires.3 was.stands h.held led (seen_as _ _ was.keeper.now.turns _ _ (Some Running) _ c.act.ensures.owner.2 c.requires.2) _ c.args.cmd.now c.host-answered.result h.entry h.adds h.len h.err

pub returns-clause-cause : goal.returns-clause-cause
returns-clause-cause g c =
    let was = c.args.self.now in
    let h = c.host-answered.ensures in
    let led = to_keeper (LeadsWithout c.args.who c.args.owner.now.seen) was.keeper.now was.locked.net was.locked.stopped was.net_is was.stopped_is (subst (λ (w : Who). LeadsWithout w c.args.owner.now.seen was.keeper.now) c.requires.2 c.act.ensures.before) in
    let by = host_by _ c.args.who c.args.cmd.now was.locked.net _ was.locked.stopped _ was.keeper.now.turns (Some Running) c.requires.3 c.host-answered.result c.requires.3 h.same.1 h.entry h.adds h.err in
    refused_so g.L.NetLedger.terms c.args.who _ _ was.locked.net _ was.locked.fuel was.locked.stopped _ was.locked.sessions.items was.keeper.now.turns (Some Running) c.requires.3 was.stands h.held led (seen_as _ _ was.keeper.now.turns _ _ (Some Running) _ c.act.ensures.owner.2 c.requires.2) (λ net fuel e. RefusesCommand net c.args.cmd.now.verb c.args.cmd.now.port.items c.args.cmd.now.value e) c.host-answered.result by h.cause

pub returns-clause-owner : goal.returns-clause-owner
returns-clause-owner g c =
    let was = c.args.self.now in
    let h = c.host-answered.ensures in
    let by = host_by _ c.args.who c.args.cmd.now was.locked.net _ was.locked.stopped _ was.keeper.now.turns (Some Running) c.requires.3 c.host-answered.result c.requires.3 h.same.1 h.entry h.adds h.err in
    let onward = kept_by _ _ was.keeper.now was.locked.net _ was.locked.stopped _ (Some Running) was.net_is was.stopped_is c.requires.2 by in
    (c.act.ensures.owner.0, c.act.ensures.owner.1, seen_on _ _ _ _ _ _ c.act.ensures.before onward c.act.ensures.owner.2)

pub act-requires-clause-why : goal.act-requires-clause-why
act-requires-clause-why g c = λ s. inl (c.args.self.now.stopped_is ∙ sym c.host-answered.ensures.same.1 ∙ s)

pub returns-clause-turned : goal.returns-clause-turned
returns-clause-turned g c =
    let was = c.args.self.now in
    let h = c.host-answered.ensures in
    let led = to_keeper (LeadsWithout c.args.who c.args.owner.now.seen) was.keeper.now was.locked.net was.locked.stopped was.net_is was.stopped_is (subst (λ (w : Who). LeadsWithout w c.args.owner.now.seen was.keeper.now) c.requires.2 c.act.ensures.before) in
    has_stood g.L.NetLedger.terms c.args.who _ _ was.locked.net _ was.locked.fuel was.locked.stopped _ was.locked.sessions.items was.keeper.now.turns (Some Running) c.requires.3 was.stands h.held led (seen_as _ _ was.keeper.now.turns _ _ (Some Running) _ c.act.ensures.owner.2 c.requires.2)

pub invariant_of-self-2-clause-stands : goal.invariant_of-self-2-clause-stands
invariant_of-self-2-clause-stands g c =
    let was = c.args.self.now in
    let h = c.host-answered.ensures in
    stands_on g.L.NetLedger.terms.sessions was.keeper.hosts was.keeper.workers (length c.host-answered.new.self.net.journal) c.args.owner.now.who c.args.who (Some Running) was.keeper.now.turns _ was.locked.sessions.items _ was.stands h.runs c.act.ensures.named c.requires.2 c.requires.3 (ap (λ (m : Moment). m.turns) c.act.ensures.keeper.1)
