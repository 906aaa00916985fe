use Rattle.std.proofs.Common.{◌+◌, ◌≤◌}
use Rattle.bz_model.specs.Nets.{StepsAt}
use Rattle.bz_explore_net.specs.Picking.{Below}
use Rattle.bz_explore_net.proofs.chance.port_with.Given as goal

abbrev pub invariant-loop-number : goal.invariant-loop-number
invariant-loop-number l = record {
  below : Below (StepsAt l.net.wiring.sites l.net.state l.comp) (l.number + 1) l.before;
  fits : l.before ≤ l.number;
  within : l.before ≤ l.place;
}
