use Rattle.std.proofs.Common.{length}
use Rattle.bz_page.proofs.Told.{GrowsUpTo}
use Rattle.bz_page.proofs.sources.put_lines.Given as goal

abbrev pub invariant-loop-rest : goal.invariant-loop-rest
invariant-loop-rest l = GrowsUpTo l.initial.rows l.rows l.text l.rest

abbrev pub decreases-loop-rest : goal.decreases-loop-rest
decreases-loop-rest l = length l.rest
