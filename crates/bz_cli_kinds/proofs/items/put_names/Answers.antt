use Rattle.std.proofs.Common.{map, arith, ◌++◌, codes}
use Rattle.bz_text.proofs.Grown.{grows_nothing, grows_then}
use Rattle.bz_kind_rows.specs.Table.{seen}
use Rattle.bz_cli_kinds.specs.Fields.{comma, field}
use Rattle.bz_cli_kinds.specs.Items.{port_name}
use Rattle.bz_cli_kinds.proofs.Told.{listed-all, listed-next}
use Rattle.bz_cli_kinds.proofs.items.put_names.Goals as goal

pub loop-place-init : goal.loop-place-init
loop-place-init c = grows_nothing _

pub loop-place-preserved : goal.loop-place-preserved
loop-place-preserved c =
    listed-next (λ k place. comma c.args.is_json k ++ field c.args.is_json (codes "\"") (port_name (map seen c.args.ports.now) place)) c.args.places.now c.loop-place.place _ (omega arith) _ _ _ c.loop-place.invariant (grows_then _ _ _ _ _ c.put_comma.ensures (rw c.port_name.ensures at c.put_field.ensures))

pub returns : goal.returns
returns c = grows_then _ _ _ _ _ (listed-all (λ k place. comma c.args.is_json k ++ field c.args.is_json (codes "\"") (port_name (map seen c.args.ports.now) place)) c.args.places.now c.loop-place.place (omega arith) _ _ c.loop-place.invariant) c.put_mark.ensures
