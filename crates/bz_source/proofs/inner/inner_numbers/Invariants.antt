use Rattle.std.proofs.Common.{◌≡◌, map, take}
use Rattle.bz_source.specs.Inner.{inner_of}
use Rattle.bz_source.proofs.inner.inner_numbers.Given as goal

abbrev pub invariant-loop-part : goal.invariant-loop-part
invariant-loop-part l = map (λ v. v.items) l.inner.items ≡ map (inner_of l.parts) (take l.part-index l.list)
