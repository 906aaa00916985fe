use Rattle.std.proofs.Common.{subst, sym}
use Rattle.bz_kind_rows.specs.declared.rows.WidthRule.{WidthRule}
use Rattle.bz_kind_rows.specs.Table.{seen_row, seen_rule}
use Rattle.bz_text.specs.Growing.{Grows}
use Rattle.bz_text.proofs.Grown.{grows_then}
use Rattle.bz_cli_kinds.specs.Items.{width_item}
use Rattle.bz_cli_kinds.proofs.items.put_width.Goals as goal

pub returns-in-Sum : goal.returns-in-Sum
returns-in-Sum c =
    subst (λ (rule : WidthRule). Grows c.args.text.now c.put_names-in-Sum.new.text (width_item c.args.is_json (seen_row c.args.row.now) (seen_rule rule))) (sym c.in-Sum.is)
    (grows_then _ _ _ _ _ c.put_mark-in-Sum.ensures (grows_then _ _ _ _ _ (rw c.port_name.ensures at c.put_field.ensures) (grows_then _ _ _ _ _ c.put_mark-in-Sum-2.ensures c.put_names-in-Sum.ensures)))

pub returns-in-Within : goal.returns-in-Within
returns-in-Within c =
    subst (λ (rule : WidthRule). Grows c.args.text.now c.put_mark-in-Within-2.new.text (width_item c.args.is_json (seen_row c.args.row.now) (seen_rule rule))) (sym c.in-Within.is)
    (grows_then _ _ _ _ _ c.put_mark-in-Within.ensures (grows_then _ _ _ _ _ c.put_first_place.ensures (grows_then _ _ _ _ _ (rw c.port_name-in-Within.ensures at c.put_field-in-Within.ensures) (grows_then _ _ _ _ _ (rw c.port_name-in-Within-2.ensures at c.put_field-in-Within-2.ensures) c.put_mark-in-Within-2.ensures))))
