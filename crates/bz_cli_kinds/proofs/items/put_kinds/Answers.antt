use Rattle.std.proofs.Common.{List, arith, ◌++◌, subst}
use Rattle.bz_model.specs.Rows.{KindRow}
use Rattle.bz_text.specs.Growing.{Grows}
use Rattle.bz_text.proofs.Grown.{grows_nothing, grows_then}
use Rattle.bz_kind_rows.specs.Table.{seen_row}
use Rattle.bz_cli_input.specs.Listing.{lines}
use Rattle.bz_cli_kinds.specs.Items.{head, kind_item, kinds_text}
use Rattle.bz_cli_kinds.proofs.Told.{grown-all, grown-next}
use Rattle.bz_cli_kinds.proofs.items.put_kinds.Goals as goal

pub loop-place-init : goal.loop-place-init
loop-place-init c = grows_nothing _

pub loop-place-preserved : goal.loop-place-preserved
loop-place-preserved c =
    grown-next (λ k row. head c.args.is_json k ++ kind_item c.args.is_json row) seen_row c.kind_rows-row-items.result.now c.loop-place.place _ (omega arith) _ _ _ c.loop-place.invariant (grows_then _ _ _ _ _ c.put_head.ensures c.put_kind.ensures)

pub returns : goal.returns
unfolding kinds_text
returns c =
    grows_then _ _ _ _ _ c.put_mark.ensures (grows_then _ _ _ _ _ (subst (λ (rows : List KindRow). Grows c.put_mark.new.text c.loop-place.text (lines (λ k row. head c.args.is_json k ++ kind_item c.args.is_json row) 1 rows)) c.kind_rows-row-items.ensures
    (grown-all (λ k row. head c.args.is_json k ++ kind_item c.args.is_json row) seen_row c.kind_rows-row-items.result.now c.loop-place.place (omega arith) _ _ c.loop-place.invariant)) c.put_mark-2.ensures)
