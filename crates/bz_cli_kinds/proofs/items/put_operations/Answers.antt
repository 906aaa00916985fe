use Rattle.std.proofs.Common.{arith, ◌++◌, codes}
use Rattle.bz_text.proofs.Grown.{grows_nothing, grows_then}
use Rattle.bz_cli_kinds.specs.Fields.{comma, field}
use Rattle.bz_cli_kinds.proofs.Told.{grown-all, grown-next}
use Rattle.bz_cli_kinds.proofs.items.put_operations.Goals as goal

pub loop-place-init : goal.loop-place-init
loop-place-init c = grows_nothing _

pub loop-place-preserved : goal.loop-place-preserved
loop-place-preserved c =
    grown-next (λ k name. comma c.args.is_json k ++ field c.args.is_json (codes "\"") name) (λ name. name.now) c.args.names.now c.loop-place.place _ (omega arith) _ _ _ c.loop-place.invariant (grows_then _ _ _ _ _ c.put_comma.ensures c.put_field.ensures)

pub returns : goal.returns
returns c = grown-all (λ k name. comma c.args.is_json k ++ field c.args.is_json (codes "\"") name) (λ name. name.now) c.args.names.now c.loop-place.place (omega arith) _ _ c.loop-place.invariant
