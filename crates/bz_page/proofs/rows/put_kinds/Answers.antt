use Rattle.std.proofs.Common.{map, sym, arith}
use Rattle.bz_flat.specs.Flats.{site_of}
use Rattle.bz_kind_rows.specs.Table.{seen_row}
use Rattle.bz_page.specs.Rows.{line_of}
use Rattle.bz_page.proofs.Grown.{grows_all, kinds_grown}
use Rattle.bz_page.proofs.rows.put_kinds.Goals as goal

pub returns : goal.returns
returns c =
    kinds_grown (map site_of c.args.comps.now) c.kind_rows-row-items.result.now _ _ (sym c.kind_rows-row-items.ensures)
    (grows_all (λ row. line_of (map site_of c.args.comps.now) (seen_row row)) c.kind_rows-row-items.result.now c.loop-row.row-index _ _ (omega arith) c.loop-row.invariant)
