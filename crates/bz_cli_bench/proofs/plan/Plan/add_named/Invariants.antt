use Rattle.std.proofs.Common.{◌≡◌, length}
use Rattle.bz_cli_bench.proofs.plan.Plan.add_named.Given as goal

abbrev pub invariant-loop-line : goal.invariant-loop-line
invariant-loop-line l = length l.self.streams.items ≡ length l.fn.self.streams.items
