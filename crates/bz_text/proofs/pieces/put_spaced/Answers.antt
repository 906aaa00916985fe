use Rattle.std.proofs.Common.{arith}
use Rattle.std.proofs.lemmas.Result.{err_from_is_err_and}
use Rattle.bz_text.proofs.Sent.{stops_at}
use Rattle.bz_model.specs.Words.{spaced}
use Rattle.bz_text.proofs.pieces.put_spaced.Goals as goal

pub returns-in_err-put_space : goal.returns-in_err-put_space
returns-in_err-put_space g c =
    let p = err_from_is_err_and c.from_residual.result c.from_residual.ensures.1 in
    rw p.1 (stops_at _ _ _ spaced c.args.numbers.now c.loop-number.number-index _ (omega arith) c.loop-number.invariant c.in_err-put_space.ensures)
