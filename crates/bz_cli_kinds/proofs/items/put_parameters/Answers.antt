use Rattle.std.proofs.Common.{arith, ◌++◌}
use Rattle.bz_text.proofs.Grown.{grows_nothing, grows_then}
use Rattle.bz_kind_rows.specs.Table.{seen_row}
use Rattle.bz_cli_kinds.specs.Fields.{comma}
use Rattle.bz_cli_kinds.specs.Items.{parameter_item}
use Rattle.bz_cli_kinds.proofs.Told.{listed-all, listed-next}
use Rattle.bz_cli_kinds.proofs.items.put_parameters.Goals as goal

pub loop-place-init : goal.loop-place-init
loop-place-init c = grows_nothing _

pub loop-place-preserved : goal.loop-place-preserved
loop-place-preserved c =
    listed-next (λ k parameter. comma c.args.is_json k ++ parameter_item c.args.is_json (seen_row c.args.row.now) parameter) c.args.row.now.parameters.now c.loop-place.place _ (omega arith) _ _ _ c.loop-place.invariant (grows_then _ _ _ _ _ c.put_comma.ensures c.put_parameter.ensures)

pub returns : goal.returns
returns c = listed-all (λ k parameter. comma c.args.is_json k ++ parameter_item c.args.is_json (seen_row c.args.row.now) parameter) c.args.row.now.parameters.now c.loop-place.place (omega arith) _ _ c.loop-place.invariant
