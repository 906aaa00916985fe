use Rattle.std.proofs.Common.{subst}
use Rattle.bz_locked.specs.Closing.{Gathers}
use Rattle.bz_pool.proofs.pool.close.Goals as goal

pub returns-in-Ok-clause-gathers : goal.returns-in-Ok-clause-gathers
returns-in-Ok-clause-gathers g c =
    subst (λ u. Gathers g.L.NetLedger.terms u c.args.crew.sessions.items c.args.crew.workers.items c.in-Ok.closed) c.requires.stopper.1 c.in-Ok.ensures.gathers
