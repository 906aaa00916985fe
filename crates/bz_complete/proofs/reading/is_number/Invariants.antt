use Rattle.std.proofs.Common.{◌≡◌}
use Rattle.bz_complete.proofs.reading.is_number.Given as goal

abbrev pub invariant-loop-byte : goal.invariant-loop-byte
invariant-loop-byte l = l.byte-items ≡ l.fn.word
