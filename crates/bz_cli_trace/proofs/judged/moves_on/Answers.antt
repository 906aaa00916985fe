use Rattle.std.proofs.Common.{◌≡◌, true, ap, rules}
use Rattle.bz_cli_trace.proofs.Judges.{rest_told}
use Rattle.bz_cli_trace.proofs.judged.moves_on.Goals as goal

pub returns-in-Run : goal.returns-in-Run
returns-in-Run c =
    let so : c.args.to_rest ≡ true = search rules in
    rw c.is_some.ensures (rest_told c.args.to_rest c.args.verdict c.args.net.now _ _ c.next_ready.result so c.in-Run.is c.next_ready.ensures (ap (λ w. w.sites) c.core.ensures.wiring) c.core.ensures.state)
