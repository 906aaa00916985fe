use Rattle.std.proofs.Common.{◌≡◌, map, take}
use Rattle.bz_model.proofs.name_row.places_of.Given as goal

abbrev pub invariant-loop-entry : goal.invariant-loop-entry
invariant-loop-entry l = l.places.items ≡ map (λ e. e.1) (take l.entry-index l.sorted)
