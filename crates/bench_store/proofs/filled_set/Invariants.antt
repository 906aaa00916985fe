use Rattle.std.proofs.Common.{◌≡◌, ◌+◌, length}
use Rattle.bench_store.proofs.filled_set.Given as goal

abbrev pub invariant-loop-number : goal.invariant-loop-number
invariant-loop-number l = length l.set.row ≡ l.limit + 1
