use Rattle.std.proofs.Common.{◌≡◌, ◌≤◌, ◌++◌, map, drop}
use Rattle.bz_kind_rows.specs.Table.{seen}
use Rattle.bz_elab.specs.Entries.{singles, lists, in_row}
use Rattle.bz_elab.proofs.component.in_row.Given as goal

abbrev pub invariant-loop-row : goal.invariant-loop-row
invariant-loop-row l = record { so_far : l.chans.items ++ in_row (map seen (drop l.row-index l.rows)) (drop l.ones (singles l.entries)) (drop l.manys (lists l.entries)) ≡ in_row (map seen l.rows) (singles l.entries) (lists l.entries); ones : l.ones ≤ l.row-index; manys : l.manys ≤ l.row-index }
