use Rattle.bz_explore_net.specs.HostOffers.{HostOffersUpTo}
use Rattle.bz_explore_net.proofs.host_offers.answered_words.Given as goal

abbrev pub invariant-loop-place : goal.invariant-loop-place
invariant-loop-place l = HostOffersUpTo l.net.wiring l.net.state l.place l.offers.items
