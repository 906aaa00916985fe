use Rattle.std.proofs.Common.{subst}
use Rattle.bz_net.specs.Due.{TellsDue}
use Rattle.bz_net.specs.Simulation.{Simulation}
use Rattle.bz_net.proofs.net.Net.due.Goals as goal

pub returns : goal.returns
returns c = subst (λ (v : Simulation). TellsDue v.wiring.sites v.state c.args.comp c.args.port c.due.result) c.self.view_is c.due.ensures.due
