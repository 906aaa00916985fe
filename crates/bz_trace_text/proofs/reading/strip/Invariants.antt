use Rattle.std.proofs.Common.{◌≡◌, drop}
use Rattle.bz_trace_text.specs.Reading.{strip}
use Rattle.bz_trace_text.proofs.reading.strip.Given as goal

abbrev pub invariant-loop-place : goal.invariant-loop-place
invariant-loop-place l = strip l.front l.text ≡ strip (drop l.place l.front) (drop l.place l.text)
