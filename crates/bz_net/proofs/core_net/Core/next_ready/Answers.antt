use Rattle.std.proofs.Common.{Some}
use Rattle.bz_net.proofs.Readiness.{next_from}
use Rattle.bz_net.proofs.core_net.Core.next_ready.Goals as goal

pub returns-in-Some : goal.returns-in-Some
returns-in-Some c =
    let n = c.args.self.now in
    next_from n.wiring n.state c.args.from c.last_before-last.result (Some c.in-Some.comp) c.last_before-last.ensures c.in-Some.ensures.some

pub returns : goal.returns
returns c =
    let n = c.args.self.now in
    next_from n.wiring n.state c.args.from c.last_before-last.result c.next_past.result c.last_before-last.ensures c.next_past.ensures
