use Rattle.std.proofs.Common.{subst}
use Rattle.bz_ready.specs.Set.{IsListing}
use Rattle.bz_ready.proofs.Sets.{listing}
use Rattle.bz_ready.proofs.set.ReadySet.nth.Goals as goal

pub returns-clause-listing : goal.returns-clause-listing
returns-clause-listing g c = subst IsListing c.self.view_is (listing c.self.inside.order c.self.inside.len c.self.inside.row c.self.invariant)
