use Rattle.std.proofs.Common.{arith, ◌++◌}
use Rattle.bz_text.proofs.Grown.{grows_nothing, grows_then}
use Rattle.bz_kind_rows.specs.Table.{seen}
use Rattle.bz_cli_kinds.specs.Fields.{comma}
use Rattle.bz_cli_kinds.specs.Items.{port_item}
use Rattle.bz_cli_kinds.proofs.Told.{grown-all, grown-next}
use Rattle.bz_cli_kinds.proofs.items.put_ports.Goals as goal

pub loop-place-init : goal.loop-place-init
loop-place-init c = grows_nothing _

pub loop-place-preserved : goal.loop-place-preserved
loop-place-preserved c =
    grown-next (λ k port. comma c.args.is_json k ++ port_item c.args.is_json k port) seen c.args.ports.now c.loop-place.place _ (omega arith) _ _ _ c.loop-place.invariant (grows_then _ _ _ _ _ c.put_comma.ensures c.put_port.ensures)

pub returns : goal.returns
returns c = grown-all (λ k port. comma c.args.is_json k ++ port_item c.args.is_json k port) seen c.args.ports.now c.loop-place.place (omega arith) _ _ c.loop-place.invariant
