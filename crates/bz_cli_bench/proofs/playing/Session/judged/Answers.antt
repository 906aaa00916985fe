use Rattle.std.proofs.Common.{subst}
use Rattle.bz_net.specs.Simulation.{Simulation}
use Rattle.bz_cli_bench.specs.Verdicts.{Judges}
use Rattle.bz_cli_bench.proofs.playing.Session.judged.Goals as goal

pub returns-in-Ok-clause-judged : goal.returns-in-Ok-clause-judged
returns-in-Ok-clause-judged c =
    subst (λ (n : Simulation). Judges n.wiring n.state n.journal c.args.self.plan.now.streams.items c.args.self.plan.now.spins c.in-Ok.verdict) c.net-net.ensures c.in-Ok.ensures
