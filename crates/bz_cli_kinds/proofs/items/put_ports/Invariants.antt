use Rattle.std.proofs.Common.{map, take}
use Rattle.bz_text.specs.Growing.{Grows}
use Rattle.bz_kind_rows.specs.Table.{seen}
use Rattle.bz_cli_kinds.specs.Fields.{listed}
use Rattle.bz_cli_kinds.specs.Items.{port_item}
use Rattle.bz_cli_kinds.proofs.items.put_ports.Given as goal

abbrev pub invariant-loop-place : goal.invariant-loop-place
invariant-loop-place l = Grows l.initial.text l.text (listed (port_item l.is_json) l.is_json (map seen (take l.place l.ports)))
