use Rattle.std.proofs.Common.{◌≡◌, true, map, take}
use Rattle.std.specs.List.{list_all}
use Rattle.bz_model.specs.Rows.{chans_at, is_met, number_of}
use Rattle.bz_kind_rows.specs.Table.{seen, seen_rule}
use Rattle.bz_kind_rows.proofs.table.are_asked.Given as goal

abbrev pub invariant-loop-rule : goal.invariant-loop-rule
invariant-loop-rule l =
    list_all (λ rule. is_met (chans_at (map seen l.row.ports.now) l.sizes l.chans) (number_of l.kind) (seen_rule rule)) (take l.rule-index l.row.widths.now) ≡ true
