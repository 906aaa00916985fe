use Rattle.std.proofs.Common.{◌+◌, arith, refl}
use Rattle.bz_waits.specs.Stuck.{is_member}
use Rattle.bz_waits.proofs.Holding.{at_port, ports_all, ports_more, ports_start}
use Rattle.bz_waits.proofs.looking.comp_holds.Goals as goal

pub loop-place-init : goal.loop-place-init
loop-place-init c = ports_start c.args.core.now.wiring c.args.core.now.state (is_member c.args.members.now) c.args.comp

pub returns-then-is_ready : goal.returns-then-is_ready
returns-then-is_ready c = (λ yes. cc, λ stuck. let can = c.if-is_ready.ensures in absurd (stuck.still can.0 can.1))

pub loop-place-preserved : goal.loop-place-preserved
loop-place-preserved c =
    let n = c.args.core.now in
    ports_more n.wiring n.state (is_member c.args.members.now) c.args.comp c.loop-place.place c.loop-place.invariant (c.port_holds.ensures.0 (cc))

pub returns-then-not-port_holds : goal.returns-then-not-port_holds
returns-then-not-port_holds c =
    let n = c.args.core.now in
    (λ yes. cc, λ stuck. let yes = c.port_holds.ensures.1 (at_port n.wiring n.state (is_member c.args.members.now) c.args.comp (c.loop-place.place + 1) stuck) in cc)

pub returns : goal.returns
returns c =
    let n = c.args.core.now in (
      λ yes. ports_all n.wiring n.state (is_member c.args.members.now) c.args.comp c.loop-place.place (λ p port. let to = port.port_to in let ports = c.port_count-place-end.ensures in let end = c.loop-place-test.false in omega (arith, to, ports, end)) c.loop-place.invariant,
      λ stuck. refl,
    )
