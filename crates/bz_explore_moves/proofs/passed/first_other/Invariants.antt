use Rattle.bz_explore_moves.specs.Passing.{AreWanted}
use Rattle.bz_explore_moves.proofs.passed.first_other.Given as goal

abbrev pub invariant-loop-place : goal.invariant-loop-place
invariant-loop-place l = AreWanted l.items l.passed l.place
