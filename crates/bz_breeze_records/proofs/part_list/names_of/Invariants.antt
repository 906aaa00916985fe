use Rattle.std.proofs.Common.{◌≡◌, map, take}
use Rattle.bz_breeze_records.proofs.part_list.names_of.Given as goal

abbrev pub invariant-loop-part : goal.invariant-loop-part
invariant-loop-part l = map (λ name. name.items) l.names.items ≡ map (λ p. p.name.items) (take l.part-index l.list)
