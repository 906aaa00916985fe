use Rattle.std.proofs.Common.{◌+◌, ◌≤◌}
use Rattle.bz_model.specs.Nets.{StepsAt}
use Rattle.bz_explore_net.specs.Picking.{Below}
use Rattle.bz_explore_net.proofs.chance.count_ports.Given as goal

abbrev pub invariant-loop-place : goal.invariant-loop-place
invariant-loop-place l = record {
  below : Below (StepsAt l.net.wiring.sites l.net.state l.comp) (l.place + 1) l.count;
  fits : l.count ≤ l.place;
}
