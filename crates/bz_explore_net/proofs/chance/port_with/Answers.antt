use Rattle.std.proofs.Common.{◌+◌, arith}
use Rattle.bz_model.specs.Nets.{StepsAt}
use Rattle.bz_explore_net.specs.Picking.{HasMembers}
use Rattle.bz_explore_net.proofs.Picked.{members_sole}
use Rattle.bz_explore_net.proofs.chance.port_with.Goals as goal

pub unreachable-requires : goal.unreachable-requires
unreachable-requires c =
    let net = c.args.net.now in let comp = c.args.comp in
    let all : HasMembers (StepsAt net.wiring.sites net.state comp) c.loop-number.before =
    (c.loop-number.number + 1, λ p steps. let to = steps.is_port.port_to in let ports = c.requires.ports in let end = c.loop-number-test.false in omega (arith, to, ports, end), c.loop-number.invariant.below) in
    let same = members_sole (StepsAt net.wiring.sites net.state comp) c.loop-number.before c.args.count all c.requires.count in
    let fewer = c.loop-number.invariant.within in let within = c.requires.within in
    omega (arith, same, fewer, within)
