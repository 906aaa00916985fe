use Rattle.bz_net.specs.Keeping.{MarksAll}
use Rattle.bz_explore_net.proofs.movers.movers_of.Given as goal

abbrev pub invariant-loop-place : goal.invariant-loop-place
invariant-loop-place l = MarksAll l.net.wiring.sites l.net.state l.movers l.place
