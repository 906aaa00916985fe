use Rattle.std.proofs.Common.{arith}
use Rattle.std.proofs.lemmas.Result.{err_from_is_err_and}
use Rattle.bz_text.proofs.Sent.{stops_at}
use Rattle.bz_text.specs.Pieces.{slashed}
use Rattle.bz_text.proofs.pieces.put_slashed.Goals as goal

pub returns-in_err-put_slash : goal.returns-in_err-put_slash
returns-in_err-put_slash g c =
    let p = err_from_is_err_and c.from_residual.result c.from_residual.ensures.1 in
    rw p.1 (stops_at _ _ _ slashed c.args.numbers.now c.loop-number.number-index _ (omega arith) c.loop-number.invariant c.in_err-put_slash.ensures)
