use Rattle.std.proofs.Common.{take}
use Rattle.bz_trace_text.specs.Reading.{HasNoSpace}
use Rattle.bz_trace_text.proofs.ports.word_at.Given as goal

abbrev pub invariant-loop-place : goal.invariant-loop-place
invariant-loop-place l = HasNoSpace (take l.place l.text)
