use Rattle.std.proofs.Common.{map, take}
use Rattle.std.specs.List.{flat_map}
use Rattle.bz_text.specs.Growing.{Grows}
use Rattle.bz_flat.specs.Flats.{site_of}
use Rattle.bz_kind_rows.specs.Table.{seen_row}
use Rattle.bz_page.specs.Rows.{line_of}
use Rattle.bz_page.proofs.rows.put_kinds.Given as goal

abbrev pub invariant-loop-row : goal.invariant-loop-row
invariant-loop-row l = Grows l.initial.rows l.rows (flat_map (λ row. line_of (map site_of l.comps) (seen_row row)) (take l.row-index l.row-items))
