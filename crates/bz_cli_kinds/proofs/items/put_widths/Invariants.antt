use Rattle.std.proofs.Common.{map, take}
use Rattle.bz_text.specs.Growing.{Grows}
use Rattle.bz_kind_rows.specs.Table.{seen_row, seen_rule}
use Rattle.bz_cli_kinds.specs.Fields.{listed}
use Rattle.bz_cli_kinds.specs.Items.{width_item}
use Rattle.bz_cli_kinds.proofs.items.put_widths.Given as goal

abbrev pub invariant-loop-place : goal.invariant-loop-place
invariant-loop-place l = Grows l.initial.text l.text (listed (λ k rule. width_item l.is_json (seen_row l.row) rule) l.is_json (map seen_rule (take l.place l.rule-items)))
