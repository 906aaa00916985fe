use Rattle.std.proofs.Common.{◌≡◌, map, take}
use Rattle.bz_elab.specs.Numbers.{number_named}
use Rattle.bz_source.proofs.inner.inner_of.Given as goal

abbrev pub invariant-loop-component : goal.invariant-loop-component
invariant-loop-component l = l.inner.items ≡ map (λ c. number_named l.parts c.name.items) (take l.component-index l.component-items)
