use Rattle.std.proofs.Common.{◌+◌, arith}
use Rattle.bz_model.specs.Nets.{StepsAt}
use Rattle.bz_explore_net.specs.Picking.{HasMembers}
use Rattle.bz_explore_net.proofs.Picked.{has_some}
use Rattle.bz_explore_net.proofs.chance.count_ports.Goals as goal

pub returns-clause-some : goal.returns-clause-some
returns-clause-some c =
    let net = c.args.net.now in let comp = c.args.comp in
    let all : HasMembers (StepsAt net.wiring.sites net.state comp) c.loop-place.count =
    (c.loop-place.place + 1, λ p steps. let to = steps.is_port.port_to in let ports = c.requires.ports in let end = c.loop-place-test.false in omega (arith, to, ports, end), c.loop-place.invariant.below) in
    has_some (StepsAt net.wiring.sites net.state comp) c.requires.can.0 c.loop-place.count c.requires.can.1 all
