use Rattle.std.proofs.Common.{subst}
use Rattle.bz_model.specs.Nets.{StepsAt}
use Rattle.bz_explore_net.specs.Picking.{IsPlace}
use Rattle.bz_explore_net.proofs.chance.pick_port.Goals as goal

pub returns-clause-port : goal.returns-clause-port
returns-clause-port c =
    let net = c.args.net.now in (
      c.count_ports-count.result,
      c.count_ports-count.ensures.count,
      subst (λ place. IsPlace (StepsAt net.wiring.sites net.state c.args.comp) place c.port_with.result) c.pick-place.ensures.picked c.port_with.ensures,
    )
