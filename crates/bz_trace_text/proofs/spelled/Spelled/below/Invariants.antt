use Rattle.std.proofs.Common.{◌≡◌, length}
use Rattle.bz_trace_text.specs.Spelling.{AreSpelled}
use Rattle.bz_trace_text.proofs.spelled.Spelled.below.Given as goal

-- the numbers so far
abbrev pub invariant-loop-n : goal.invariant-loop-n
invariant-loop-n l = record {
  count : length l.numbers.items ≡ l.n;
  told : AreSpelled l.numbers.items;
}
