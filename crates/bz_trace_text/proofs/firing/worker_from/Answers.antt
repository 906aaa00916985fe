use Rattle.std.proofs.Common.{get_or, arith}
use Rattle.bz_trace_text.proofs.Firings.{front_bytes, worker_there}
use Rattle.bz_trace_text.proofs.firing.worker_from.Goals as goal

pub returns : goal.returns
returns c = λ net.
    let t = c.args.text.now in
    let small = c.type_inv.text in
    let front = front_bytes (get_or t 0 0) (get_or t 1 0) (get_or t 2 0) (get_or t 3 0) c.from_le_bytes-front.result (omega (arith, small 0)) (omega (arith, small 1)) (omega (arith, small 2)) (omega (arith, small 3))
    (omega (arith, c.from_le_bytes-front.ensures)) c.if-past.false c.if-past-ne0.false in
    worker_there net t _ c.requires front.0 front.1 front.2 front.3 front.4 (c.has_four.ensures c.if-not-has_four.false) front.5
