use Rattle.std.proofs.Common.{take}
use Rattle.bz_text.specs.Growing.{Grows}
use Rattle.bz_kind_rows.specs.Table.{seen_row}
use Rattle.bz_cli_kinds.specs.Fields.{listed}
use Rattle.bz_cli_kinds.specs.Items.{parameter_item}
use Rattle.bz_cli_kinds.proofs.items.put_parameters.Given as goal

abbrev pub invariant-loop-place : goal.invariant-loop-place
invariant-loop-place l = Grows l.initial.text l.text (listed (λ k parameter. parameter_item l.is_json (seen_row l.row) parameter) l.is_json (take l.place l.parameter-items))
