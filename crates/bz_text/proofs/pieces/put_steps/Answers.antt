use Rattle.std.proofs.Common.{arith}
use Rattle.std.proofs.lemmas.Result.{err_from_is_err_and}
use Rattle.bz_text.proofs.Sent.{stops_at}
use Rattle.bz_text.specs.Pieces.{stepped}
use Rattle.bz_text.proofs.pieces.put_steps.Goals as goal

pub returns-in_err-put_step : goal.returns-in_err-put_step
returns-in_err-put_step g c =
    let p = err_from_is_err_and c.from_residual.result c.from_residual.ensures.1 in
    rw p.1 (stops_at _ _ _ stepped c.args.path.now c.loop-step.step-index _ (omega arith) c.loop-step.invariant c.in_err-put_step.ensures)
