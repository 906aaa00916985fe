use Rattle.std.proofs.Common.{map, take, codes}
use Rattle.bz_text.specs.Growing.{Grows}
use Rattle.bz_cli_kinds.specs.Fields.{listed, field}
use Rattle.bz_cli_kinds.proofs.items.put_operations.Given as goal

abbrev pub invariant-loop-place : goal.invariant-loop-place
invariant-loop-place l = Grows l.initial.text l.text (listed (λ k name. field l.is_json (codes "\"") name) l.is_json (map (λ name. name.now) (take l.place l.names)))
