use Rattle.std.proofs.Common.{◌≡◌}
use Rattle.bz_net.specs.Keeping.{MarksReady}
use Rattle.bz_explore_net.specs.Picking.{PlaysPicks}
use Rattle.bz_explore_net.proofs.chance.run_by_chance.Given as goal

-- so many moves so far
abbrev pub invariant-loop-made : goal.invariant-loop-made
invariant-loop-made l = record {
  plays : PlaysPicks l.fn.net l.net l.who l.made l.fn.picker.state l.picker.state;
  seed : l.picker.seed ≡ l.fn.picker.seed;
  movers : MarksReady l.net.wiring l.net.state l.movers;
}
