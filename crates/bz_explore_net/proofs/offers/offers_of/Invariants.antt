use Rattle.std.proofs.Common.{◌+◌}
use Rattle.bz_explore_net.specs.Offers.{OffersUpTo}
use Rattle.bz_explore_net.proofs.offers.offers_of.Given as goal

abbrev pub invariant-loop-place : goal.invariant-loop-place
invariant-loop-place l = OffersUpTo l.net.wiring.sites l.net.state (l.place + 1) 1 l.offers.items
