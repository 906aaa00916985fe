use Rattle.std.proofs.Common.{map, take, codes}
use Rattle.bz_text.specs.Growing.{Grows}
use Rattle.bz_kind_rows.specs.Table.{seen}
use Rattle.bz_cli_kinds.specs.Fields.{listed, field}
use Rattle.bz_cli_kinds.specs.Items.{port_name}
use Rattle.bz_cli_kinds.proofs.items.put_names.Given as goal

abbrev pub invariant-loop-place : goal.invariant-loop-place
invariant-loop-place l = Grows l.initial.text l.text (listed (λ k place. field l.is_json (codes "\"") (port_name (map seen l.ports) place)) l.is_json (take l.place l.places))
