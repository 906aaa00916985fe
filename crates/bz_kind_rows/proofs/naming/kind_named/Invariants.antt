use Rattle.std.proofs.Common.{◌≡◌, map, drop}
use Rattle.bz_kind_rows.specs.Table.{seen_row}
use Rattle.bz_kind_rows.proofs.Names.{found}
use Rattle.bz_kind_rows.proofs.naming.kind_named.Given as goal

abbrev pub invariant-loop-row : goal.invariant-loop-row
invariant-loop-row l = found l.name (map seen_row (drop l.row-index l.row-items)) ≡ found l.name (map seen_row l.row-items)
