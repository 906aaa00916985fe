use Rattle.std.proofs.Common.{◌≡◌, ◌≤◌, length}
use Rattle.bz_trace_text.specs.Reading.{digits_on}
use Rattle.bz_trace_text.proofs.reading.digits_on.Given as goal

abbrev pub invariant-loop-digit : goal.invariant-loop-digit
invariant-loop-digit l = record {
  same : digits_on l.most l.first l.fn.text ≡ digits_on l.most l.n l.rest;
  within : l.n ≤ l.most;
}

abbrev pub decreases-loop-digit : goal.decreases-loop-digit
decreases-loop-digit l = length l.rest
