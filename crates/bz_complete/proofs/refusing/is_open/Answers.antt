use Rattle.std.proofs.Common.{refl}
use Rattle.bz_complete.proofs.Refusals.{sends_next}
use Rattle.bz_complete.proofs.refusing.is_open.Goals as goal

pub returns-then-sends_next : goal.returns-then-sends_next
returns-then-sends_next c = λ _.
    let net = c.args.net.now in
    let sole = rw c.core.ensures.wiring at (rw c.core.ensures.state at c.due-due.ensures.sole) in
    sends_next net.wiring.sites net.state c.args.comp c.args.port c.due-due.result sole (c.if-sends_next.ensures refl)
