use Rattle.std.proofs.Common.{arith, inr, sym}
use Rattle.bz_waits.proofs.searching.free_at.Goals as goal

pub free_on-requires-clause-from : goal.free_on-requires-clause-from
free_on-requires-clause-from c =
    let from = c.names.ensures.wired.chan_from c.args.comp c.args.port c.requires.port in
    let chan = c.chan_among-chan.ensures in
    omega (arith, from, chan)

pub free_on-requires-clause-to : goal.free_on-requires-clause-to
free_on-requires-clause-to c =
    let to = c.names.ensures.wired.chan_to c.args.comp c.args.port c.requires.port in
    let chan = c.chan_among-chan.ensures in
    omega (arith, to, chan)

pub free_on-requires-clause-open : goal.free_on-requires-clause-open
free_on-requires-clause-open c = inr (c.args.comp, c.args.port, c.requires.free, c.requires.port, sym c.chan_among-chan.ensures)
