use Rattle.std.proofs.Common.{ap, codes, ◌∙◌}
use Rattle.bz_kind_rows.specs.Table.{seen_row}
use Rattle.bz_page.specs.Rows.{mark}
use Rattle.bz_page.proofs.Grown.{kind_grown, marks_grown}
use Rattle.bz_page.proofs.rows.put_kind.Goals as goal

pub returns : goal.returns
returns c =
    let meet = c.mark-4.ensures ∙ ap (λ meets. mark meets (codes " meet")) c.may_meet.ensures in
    let marks = marks_grown (seen_row c.args.row.now) c.mark.result.now c.mark-2.result.now c.mark-3.result.now c.mark-4.result.now c.as_bytes.result.now _ _ c.mark.ensures c.mark-2.ensures c.mark-3.ensures meet c.as_bytes.ensures.value c.put_pieces-2.ensures in
    kind_grown c.args.row.now c.word.result.now _ _ _ _ c.word.ensures c.put_pieces.ensures c.put_ports.ensures marks
