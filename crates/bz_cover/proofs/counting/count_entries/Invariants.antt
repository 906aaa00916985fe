use Rattle.std.proofs.Common.{take}
use Rattle.bz_cover.specs.Counts.{CountsOn}
use Rattle.bz_cover.proofs.counting.count_entries.Given as goal

-- the entries so far were counted
abbrev pub invariant-loop-entry : goal.invariant-loop-entry
invariant-loop-entry l = CountsOn l.fn.coverage (take l.entry-index l.entries) l.coverage
