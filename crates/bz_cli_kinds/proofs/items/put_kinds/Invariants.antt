use Rattle.std.proofs.Common.{map, take, ◌++◌}
use Rattle.bz_text.specs.Growing.{Grows}
use Rattle.bz_kind_rows.specs.Table.{seen_row}
use Rattle.bz_cli_input.specs.Listing.{lines}
use Rattle.bz_cli_kinds.specs.Items.{head, kind_item}
use Rattle.bz_cli_kinds.proofs.items.put_kinds.Given as goal

abbrev pub invariant-loop-place : goal.invariant-loop-place
invariant-loop-place l = Grows l.initial.text l.text (lines (λ k row. head l.is_json k ++ kind_item l.is_json row) 1 (map seen_row (take l.place l.row-items)))
