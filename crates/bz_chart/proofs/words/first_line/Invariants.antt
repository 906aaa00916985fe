use Rattle.std.proofs.Common.{◌≤◌, length}
use Rattle.bz_chart.proofs.words.first_line.Given as goal

abbrev pub invariant-loop-place : goal.invariant-loop-place
invariant-loop-place l = l.end ≤ length l.kind
