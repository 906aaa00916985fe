use Rattle.std.proofs.Common.{◌≡◌, ◌≤◌, map, take, count_by}
use Rattle.bz_kind_rows.specs.Table.{seen}
use Rattle.bz_elab.proofs.component.array_count.Given as goal

abbrev pub invariant-loop-row : goal.invariant-loop-row
invariant-loop-row l = record { count : l.count ≡ count_by (λ r. r.array) (map seen (take l.row-index l.rows)); within : l.count ≤ l.row-index }
