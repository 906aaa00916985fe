use Rattle.std.proofs.Common.{rules, ◌≡◌, Some, true}
use Rattle.bz_waits.proofs.Passed.{due_tested}
use Rattle.bz_waits.proofs.due.is_due.Goals as goal

pub returns : goal.returns
returns c =
    let n = c.args.core.now in
    due_tested n.wiring.sites n.state c.args.comp c.args.port c.args.mv c.due.result c.eq.result c.due.ensures.due c.due.ensures.sole
    (λ (is : c.eq.result ≡ true). search rules) (λ (is : c.due.result ≡ Some c.args.mv). search rules)
