use Rattle.bz_waits.proofs.Freeing.{free_waiting}
use Rattle.bz_waits.proofs.searching.free_end.Goals as goal

pub take_out-requires-clause-free : goal.take_out-requires-clause-free
take_out-requires-clause-free c =
    let n = c.args.core.now in
    free_waiting n.wiring n.state c.in-Some.comp c.args.chan c.requires.open (c.has_due_on.ensures c.if-has_due_on.true)
