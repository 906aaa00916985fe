use Rattle.std.proofs.Common.{subst}
use Rattle.bz_net.specs.Due.{Foresees}
use Rattle.bz_net.specs.Simulation.{Simulation}
use Rattle.bz_net.proofs.net.Net.foresee.Goals as goal

pub returns : goal.returns
returns c = subst (λ (v : Simulation). Foresees v.wiring.sites v.state c.args.comp c.args.port c.foresee.result) c.self.view_is c.foresee.ensures
