use Rattle.std.proofs.Common.{arith, ◌++◌}
use Rattle.bz_text.proofs.Grown.{grows_nothing, grows_then}
use Rattle.bz_kind_rows.specs.Table.{seen_row, seen_rule}
use Rattle.bz_cli_kinds.specs.Fields.{comma}
use Rattle.bz_cli_kinds.specs.Items.{width_item}
use Rattle.bz_cli_kinds.proofs.Told.{grown-all, grown-next}
use Rattle.bz_cli_kinds.proofs.items.put_widths.Goals as goal

pub loop-place-init : goal.loop-place-init
loop-place-init c = grows_nothing _

pub loop-place-preserved : goal.loop-place-preserved
loop-place-preserved c =
    grown-next (λ k rule. comma c.args.is_json k ++ width_item c.args.is_json (seen_row c.args.row.now) rule) seen_rule c.args.row.now.widths.now c.loop-place.place _ (omega arith) _ _ _ c.loop-place.invariant (grows_then _ _ _ _ _ c.put_comma.ensures c.put_width.ensures)

pub returns : goal.returns
returns c = grown-all (λ k rule. comma c.args.is_json k ++ width_item c.args.is_json (seen_row c.args.row.now) rule) seen_rule c.args.row.now.widths.now c.loop-place.place (omega arith) _ _ c.loop-place.invariant
