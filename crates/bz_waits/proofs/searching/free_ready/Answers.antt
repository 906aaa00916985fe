use Rattle.std.proofs.Common.{◌+◌, arith}
use Rattle.bz_waits.proofs.Freeing.{free_ready}
use Rattle.bz_waits.proofs.searching.free_ready.Goals as goal

pub take_out-requires-clause-free : goal.take_out-requires-clause-free
take_out-requires-clause-free c =
    let n = c.args.core.now in
    let less = c.loop-place-test.true in
    let count = c.comp_count-place-end.ensures in
    free_ready n.wiring n.state (c.loop-place.place + 1) (omega arith) (omega (arith, less, count)) c.if-is_ready.ensures
