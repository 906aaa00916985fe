use Rattle.bz_waits.proofs.Numbering.{NumbersUpTo}
use Rattle.bz_waits.proofs.set.numbers_of.Given as goal

abbrev pub invariant-loop-place : goal.invariant-loop-place
invariant-loop-place l = NumbersUpTo l.members l.place l.numbers.items
