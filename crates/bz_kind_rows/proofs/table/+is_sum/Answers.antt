use Rattle.std.proofs.Common.{map, ap, sym, ◌∙◌}
use Rattle.bz_model.specs.Rows.{chans_at, widths}
use Rattle.bz_kind_rows.specs.Table.{seen, left_of}
use Rattle.bz_kind_rows.proofs.Tables.{whole-first, whole-none}
use Rattle.bz_kind_rows.proofs.table.+is_sum.Goals as goal

pub returns-in-Some : goal.returns-in-Some
returns-in-Some t c =
    let here = chans_at (map seen c.args.rows.now) c.args.sizes.now c.args.chans.now in
    c.is_sum.ensures ∙ whole-first here c.args.places.now _ c.args.whole c.in-Some.left c.in-len1-up.len_at_least (sym (ap (λ cs. left_of c.args.whole (widths cs)) c.chans_at.ensures) ∙ sym c.in-Some.ensures)

pub returns-in-None : goal.returns-in-None
returns-in-None t c =
    let here = chans_at (map seen c.args.rows.now) c.args.sizes.now c.args.chans.now in
    whole-none here c.args.places.now _ c.args.whole c.in-len1-up.len_at_least (sym (ap (λ cs. left_of c.args.whole (widths cs)) c.chans_at.ensures) ∙ sym c.in-None.ensures)
