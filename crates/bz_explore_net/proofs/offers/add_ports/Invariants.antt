use Rattle.std.proofs.Common.{◌+◌}
use Rattle.bz_explore_net.specs.Offers.{OffersUpTo}
use Rattle.bz_explore_net.proofs.offers.add_ports.Given as goal

abbrev pub invariant-loop-place : goal.invariant-loop-place
invariant-loop-place l = OffersUpTo l.net.wiring.sites l.net.state l.comp (l.place + 1) l.offers.items
