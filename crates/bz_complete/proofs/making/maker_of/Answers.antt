use Rattle.std.proofs.Common.{arith}
use Rattle.bz_complete.specs.Stopping.{replies}
use Rattle.bz_complete.proofs.Refusals.{no_chan, past_chans}
use Rattle.bz_complete.proofs.making.maker_of.Goals as goal
use Rattle.bz_complete.proofs.making.maker_of.Goals.{then-due-eq0-via-then-due-eq0, then-due-eq0-via-else-due-eq0+then-due-chan_count}

pub returns-then-due-eq0 : goal.returns-then-due-eq0
returns-then-due-eq0 c =
    let w = c.args.net.now.wiring in let due = c.args.due in
    elim c.then-due-eq0.branch [
      | then-due-eq0-via-then-due-eq0 b ↦ let zero = b.if-due-eq0.true in no_chan w due.chan (replies due.sent) c.names.ensures.wired (λ from to. omega (arith, zero, from))
      | then-due-eq0-via-else-due-eq0+then-due-chan_count b ↦
          let past = b.if-due-chan_count.true in
          no_chan w due.chan (replies due.sent) c.names.ensures.wired (λ from to. past_chans due.chan b.chan_count.result b.core.result.now.wiring w b.chan_count.ensures b.core.ensures.wiring (omega (arith, past)) to)
    ]
