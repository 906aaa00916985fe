use Rattle.std.proofs.Common.{decimal, ◌++◌}
use Rattle.std.specs.List.{flat_map}
use Rattle.std.proofs.lemmas.Result.{err_from_is_err_and}
use Rattle.bz_text.proofs.Sent.{stops_before, writes_after}
use Rattle.bz_text.specs.Pieces.{slashed}
use Rattle.bz_text.proofs.pieces.put_joined.Goals as goal

pub returns-in_err-put_first : goal.returns-in_err-put_first
returns-in_err-put_first g c =
    let p = err_from_is_err_and c.from_residual.result c.from_residual.ensures.1 in
    rw p.1 (stops_before _ _ (c.args.before.now ++ decimal c.args.first) (flat_map slashed c.args.rest.now) c.in_err-put_first.ensures)

pub returns : goal.returns
returns g c = writes_after _ _ _ _ (c.args.before.now ++ decimal c.args.first) (flat_map slashed c.args.rest.now) c.in_ok-put_first.ensures c.put_slashed.ensures
