use Rattle.bz_elab.specs.Numbers.{Spread}
use Rattle.bz_elab.proofs.reach.below.Given as goal

abbrev pub invariant-loop-place : goal.invariant-loop-place
invariant-loop-place l = Spread l.parts l.start l.place 0 l.reached
