use Rattle.bz_elab.proofs.Ranking.{NoneRise}
use Rattle.bz_elab.proofs.reach.never_rise.Given as goal

abbrev pub invariant-loop-place : goal.invariant-loop-place
invariant-loop-place l = NoneRise l.parts l.ranks l.place
