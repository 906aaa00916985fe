use Rattle.std.proofs.Common.{◌≡◌, map, drop}
use Rattle.bz_kind_rows.specs.Naming.{meant}
use Rattle.bz_kind_rows.proofs.naming.meant.Given as goal

abbrev pub invariant-loop-row : goal.invariant-loop-row
invariant-loop-row g l = meant (map (λ row. (row.0.now, row.1)) l.table) l.name ≡ meant (map (λ row. (row.0.now, row.1)) (drop l.row-index l.table)) l.name
