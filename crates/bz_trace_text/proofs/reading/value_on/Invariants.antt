use Rattle.std.proofs.Common.{◌≡◌, length}
use Rattle.bz_trace_text.specs.Reading.{digits_on, most_value}
use Rattle.bz_trace_text.proofs.reading.value_on.Given as goal

abbrev pub invariant-loop-digit : goal.invariant-loop-digit
invariant-loop-digit l = digits_on most_value l.first l.fn.text ≡ digits_on most_value l.n l.rest

abbrev pub decreases-loop-digit : goal.decreases-loop-digit
decreases-loop-digit l = length l.rest
