use Rattle.std.proofs.Common.{Some, subst, sym}
use Rattle.bz_model.specs.declared.kind_rules.LengthRule.{LengthRule}
use Rattle.bz_kind_rows.specs.Table.{seen_row}
use Rattle.bz_text.specs.Growing.{Grows}
use Rattle.bz_text.proofs.Grown.{grows_then}
use Rattle.bz_cli_kinds.specs.Items.{lengths_by}
use Rattle.bz_cli_kinds.proofs.items.put_length_rule.Goals as goal

pub returns-in-Sets : goal.returns-in-Sets
returns-in-Sets c =
    subst (λ (rule : LengthRule). Grows c.args.text.now c.put_mark-in-Sets-2.new.text (lengths_by c.args.is_json (Some rule) (seen_row c.args.row.now))) (sym c.in-Sets.is)
    (grows_then _ _ _ _ _ c.put_mark-in-Sets.ensures (grows_then _ _ _ _ _ (rw c.array_name-in-Sets.ensures at c.put_field-in-Sets.ensures) (grows_then _ _ _ _ _ c.put_first_place.ensures c.put_mark-in-Sets-2.ensures)))
