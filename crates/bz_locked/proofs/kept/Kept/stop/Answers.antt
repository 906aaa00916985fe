use Rattle.std.proofs.Common.{◌≡◌, []}
use Rattle.bz_past.specs.Moments.{moment, Leads}
use Rattle.bz_locked.proofs.Seeing.{leads_same}
use Rattle.bz_locked.proofs.Noting.{from_keeper}
use Rattle.bz_locked.proofs.kept.Kept.stop.Goals as goal

pub halt-requires-clause-onward : goal.halt-requires-clause-onward
halt-requires-clause-onward g c =
    let was = c.args.self.now in
    from_keeper (λ m. (leads : Leads m (moment c.stop.new.self.net c.stop.new.self.stopped was.keeper.now.turns)) × (leads.rest ≡ []) × (leads.later ≡ [])) was.keeper.now was.locked.net was.locked.stopped was.net_is was.stopped_is (leads_same was.locked.net _ was.locked.stopped _ was.keeper.now.turns c.stop.ensures.same.0 (λ h. c.stop.ensures.stopped))
