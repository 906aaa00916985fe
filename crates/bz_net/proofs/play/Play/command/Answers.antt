use Rattle.std.proofs.Common.{◌≤◌, length, subst}
use Rattle.bz_net.specs.Progress.{Progress}
use Rattle.bz_net.proofs.Hosts.{port_range}
use Rattle.bz_net.proofs.play.Play.command.Goals as goal

pub command_at-requires-clause-from : goal.command_at-requires-clause-from
command_at-requires-clause-from c = (port_range c.self.inside.core.wiring.ports c.deref.result.now c.in_ok-port.port c.in_ok-port.ensures.port).0

pub command_at-requires-clause-to : goal.command_at-requires-clause-to
command_at-requires-clause-to c =
    subst (λ (v : Progress). c.in_ok-port.port ≤ length v.wiring.ports) c.self.view_is (port_range c.self.inside.core.wiring.ports c.deref.result.now c.in_ok-port.port c.in_ok-port.ensures.port).1
