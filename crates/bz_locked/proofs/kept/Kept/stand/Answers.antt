use Rattle.std.proofs.Common.{◌∙◌, Some, inl, sym, subst, length, ap}
use Rattle.bz_model.specs.declared.event.Who.{Who}
use Rattle.bz_past.specs.Owners.{LeadsWithout}
use Rattle.bz_past.specs.declared.view.Moment.{Moment}
use Rattle.bz_locked.proofs.Turning.{stands_on}
use Rattle.bz_locked.proofs.Noting.{kept_by, seen_as, seen_on, stood_none, stood_so, to_keeper}
use Rattle.bz_locked.proofs.Seeing.{by_none}
use Rattle.bz_locked.proofs.kept.Kept.stand.Goals as goal

pub act-requires-clause-onward : goal.act-requires-clause-onward
act-requires-clause-onward g c =
    let was = c.args.self.now in
    let h = c.set_standing.ensures in
    let by = by_none c.args.who was.locked.net _ was.locked.stopped _ was.keeper.now.turns (Some c.args.standing) c.requires.3 h.same.0 (λ s. h.same.2 ∙ s) in
    kept_by _ _ was.keeper.now was.locked.net _ was.locked.stopped _ (Some c.args.standing) was.net_is was.stopped_is c.requires.2 by

pub act-requires-clause-why : goal.act-requires-clause-why
act-requires-clause-why g c = λ s. inl (c.args.self.now.stopped_is ∙ sym c.set_standing.ensures.same.2 ∙ s)

pub returns-clause-owner : goal.returns-clause-owner
returns-clause-owner g c =
    let was = c.args.self.now in
    let h = c.set_standing.ensures in
    let by = by_none c.args.who was.locked.net _ was.locked.stopped _ was.keeper.now.turns (Some c.args.standing) c.requires.3 h.same.0 (λ s. h.same.2 ∙ s) in
    let onward = kept_by _ _ was.keeper.now was.locked.net _ was.locked.stopped _ (Some c.args.standing) was.net_is was.stopped_is c.requires.2 by in
    (c.act.ensures.owner.0, c.act.ensures.owner.1, seen_on _ _ _ _ _ _ c.act.ensures.before onward c.act.ensures.owner.2)

pub returns-clause-made : goal.returns-clause-made
returns-clause-made g c =
    let was = c.args.self.now in
    let led = to_keeper (LeadsWithout c.args.who c.args.owner.now.seen) was.keeper.now was.locked.net was.locked.stopped was.net_is was.stopped_is (subst (λ (w : Who). LeadsWithout w c.args.owner.now.seen was.keeper.now) c.requires.2 c.act.ensures.before) in
    stood_none c.args.who _ _ was.locked.net _ was.locked.stopped _ was.keeper.now.turns _ led c.set_standing.ensures.same.0 c.act.ensures.owner.2

pub returns-clause-turned : goal.returns-clause-turned
returns-clause-turned g c =
    let was = c.args.self.now in
    let led = subst (λ (w : Who). LeadsWithout w c.args.owner.now.seen was.keeper.now) c.requires.2 c.act.ensures.before in
    stood_so c.args.who was.keeper.now _ _ _ _ _ led (seen_as _ _ was.keeper.now.turns _ _ (Some c.args.standing) _ c.act.ensures.owner.2 c.requires.2)

pub invariant_of-self-2-clause-stands : goal.invariant_of-self-2-clause-stands
invariant_of-self-2-clause-stands g c =
    let was = c.args.self.now in
    let h = c.set_standing.ensures in
    stands_on g.L.NetLedger.terms.sessions was.keeper.hosts was.keeper.workers (length c.set_standing.new.self.net.journal) c.args.owner.now.who c.args.who (Some c.args.standing) was.keeper.now.turns _ was.locked.sessions.items _ was.stands h.sessions c.act.ensures.named c.requires.2 c.requires.3 (ap (λ (m : Moment). m.turns) c.act.ensures.keeper.1)
