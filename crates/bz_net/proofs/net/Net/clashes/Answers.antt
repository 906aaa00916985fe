use Rattle.std.proofs.Common.{subst}
use Rattle.bz_model.specs.Clashes.{AreClashed}
use Rattle.bz_net.specs.Simulation.{Simulation}
use Rattle.bz_net.proofs.net.Net.clashes.Goals as goal

pub returns : goal.returns
returns c =
    subst (λ (v : Simulation). AreClashed v.wiring v.journal c.as_slice.result.now) c.self.view_is (rw c.as_slice.ensures.numbers (record { rising = c.as_slice.ensures.rising; exact = c.self.invariant.clashed }))
