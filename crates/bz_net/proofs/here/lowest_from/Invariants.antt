use Rattle.std.proofs.Common.{ℕ, ◌*◌, ◌-◌, ◌<◌}
use Rattle.bz_kinds.specs.Ready.{CanGo}
use Rattle.bz_net.specs.Told.{flag_of}
use Rattle.bz_net.proofs.here.lowest_from.Given as goal

abbrev pub invariant-loop-at : goal.invariant-loop-at
invariant-loop-at l = (0 < l.at) × ((q : ℕ) → q < 64 * l.at → CanGo l.node.comp.proc q (flag_of l.node.here q) → ⊥)

abbrev pub decreases-loop-at : goal.decreases-loop-at
decreases-loop-at l = l.end - l.at
