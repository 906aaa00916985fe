use Rattle.std.proofs.Common.{◌≡◌, length}
use Rattle.bz_cli_bench.proofs.plan.no_streams.Given as goal

abbrev pub invariant-loop-place : goal.invariant-loop-place
invariant-loop-place l = length l.streams.items ≡ l.place
