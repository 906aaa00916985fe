use Rattle.std.proofs.Common.{◌≡◌, ◌-◌}
use Rattle.bz_since.specs.Halving.{IsBetween}
use Rattle.bz_since.proofs.since.stuck_since.Given as goal

abbrev pub invariant-loop-bounds : goal.invariant-loop-bounds
invariant-loop-bounds l = (l.bounds.low.wiring ≡ l.fn.net.wiring) × IsBetween l.entries l.bounds

abbrev pub decreases-loop-bounds : goal.decreases-loop-bounds
decreases-loop-bounds l = l.bounds.to - l.bounds.from
