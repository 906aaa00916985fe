use Rattle.bz_source.specs.Inner.{AreBare}
use Rattle.bz_source.proofs.bare.bare_parts.Given as goal

abbrev pub invariant-loop : goal.invariant-loop
invariant-loop l = AreBare l.parts l.bare.items
