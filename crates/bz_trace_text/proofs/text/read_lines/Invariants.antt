use Rattle.std.proofs.Common.{length}
use Rattle.bz_trace_text.proofs.Cuts.{Read}
use Rattle.bz_trace_text.proofs.text.read_lines.Given as goal

abbrev pub invariant-loop-entry : goal.invariant-loop-entry
invariant-loop-entry l = Read l.names l.text l.version l.entries.items l.rest

abbrev pub decreases-loop-entry : goal.decreases-loop-entry
decreases-loop-entry l = length l.rest
