use Rattle.std.proofs.Common.{◌≡◌, map, take}
use Rattle.bz_model.specs.NameRows.{placed}
use Rattle.bz_model.proofs.name_row.placed.Given as goal

abbrev pub invariant-loop-place : goal.invariant-loop-place
invariant-loop-place l = map (λ e. (e.0.now, e.1)) l.with_places.items ≡ placed 0 (map (λ n. n.items) (take l.place l.names))
