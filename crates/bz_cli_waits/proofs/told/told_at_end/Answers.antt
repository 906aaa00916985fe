use Rattle.std.proofs.Common.{Bool}
use Rattle.bz_cli_waits.specs.Telling.{IsTold}
use Rattle.bz_cli_waits.proofs.Ending.{told_at_last, told_so}
use Rattle.bz_cli_waits.proofs.told.told_at_end.Goals as goal

pub returns : goal.returns
returns c =
    let net = c.args.net in
    let looked = rw (c.core.ensures.wiring, c.core.ensures.state) at c.in_ok-is_stuck.ensures in
    told_so c.whole.result c.in_ok-is_stuck.is_stuck (λ (is : Bool). IsTold net.wiring c.args.trace.now c.args.wanted.line is) c.whole.ensures
    (told_at_last net c.args.trace.now c.args._entries c.args.wanted.line c.in_ok-is_stuck.is_stuck c.requires.ends c.requires.behind looked)
