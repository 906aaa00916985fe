use Rattle.std.proofs.Common.{◌≡◌, ◌≤◌, ◌++◌, map, drop, take, length}
use Rattle.bz_kind_rows.specs.Table.{seen}
use Rattle.bz_elab.specs.Entries.{singles, lists, in_row}
use Rattle.bz_elab.proofs.component.place_row.Given as goal

abbrev pub invariant-loop-row : goal.invariant-loop-row
invariant-loop-row l = record {
  so_far : take l.len l.places ++ in_row (map seen (drop l.row-index l.rows)) (drop l.ones (singles l.entries)) (drop l.manys (lists l.entries)) ≡ in_row (map seen l.rows) (singles l.entries) (lists l.entries);
  within : l.len ≤ length l.fn.places;
  same : length l.places ≡ length l.fn.places;
  ones : l.ones ≤ l.row-index;
  manys : l.manys ≤ l.row-index;
}
