use Rattle.bz_cover.proofs.Tallies.{AddsTo}
use Rattle.bz_cover.proofs.coverage.add_row.Given as goal

abbrev pub invariant-loop-place : goal.invariant-loop-place
invariant-loop-place l = AddsTo l.fn.row l.other l.place l.row
