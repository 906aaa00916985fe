use Rattle.std.proofs.Common.{take}
use Rattle.bz_trace_text.specs.Counting.{Tells}
use Rattle.bz_trace_text.proofs.counting.counts.Given as goal

abbrev pub invariant-loop-entry : goal.invariant-loop-entry
invariant-loop-entry l = Tells l.counts (take l.entry-index l.entries)
