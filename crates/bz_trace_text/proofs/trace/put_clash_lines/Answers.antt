use Rattle.std.proofs.Common.{arith}
use Rattle.std.proofs.lemmas.Result.{err_from_is_err_and}
use Rattle.bz_model.specs.Traces.{clash_text}
use Rattle.bz_text.proofs.Sent.{stops_at}
use Rattle.bz_trace_text.proofs.trace.put_clash_lines.Goals as goal

pub returns-in_err-put_clash : goal.returns-in_err-put_clash
returns-in_err-put_clash g c =
    let p = err_from_is_err_and c.from_residual.result c.from_residual.ensures.1 in
    rw p.1 (stops_at _ _ _ clash_text c.args.clashes.now c.loop-comp.comp-index _ (omega arith) c.loop-comp.invariant c.in_err-put_clash.ensures)
