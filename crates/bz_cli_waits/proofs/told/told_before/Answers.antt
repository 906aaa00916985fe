use Rattle.std.proofs.Common.{Bool}
use Rattle.bz_cli_waits.specs.Telling.{IsTold}
use Rattle.bz_cli_waits.proofs.Ending.{told_so}
use Rattle.bz_cli_waits.proofs.Waited.{told_behind}
use Rattle.bz_cli_waits.proofs.told.told_before.Goals as goal

pub returns : goal.returns
returns c =
    let net = c.args.net in
    let is = c.in_ok-is_stuck.is_stuck in
    let looked = rw c.requires.wiring at c.in_ok-is_stuck.ensures in
    told_so c.whole.result is (λ (it : Bool). IsTold net.wiring c.args.trace.now c.args.wanted.line it) c.whole.ensures
    (told_behind net.wiring c.args.trace.now c.args.wanted.line c.args.kept.state is c.requires.behind looked)
