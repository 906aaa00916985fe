use Rattle.std.proofs.Common.{◌≤◌}
use Rattle.bz_chart.proofs.lanes.Lanes.room.Given as goal

abbrev pub invariant-loop-lane : goal.invariant-loop-lane
invariant-loop-lane l = (8 ≤ l.room) × (l.room ≤ 36)
