use Rattle.bz_source.specs.Inner.{AreBare}
use Rattle.bz_source.proofs.bare.mark.Given as goal

abbrev pub invariant-loop-number : goal.invariant-loop-number
invariant-loop-number l = AreBare l.parts l.bare
