use Rattle.std.proofs.Common.{arith}
use Rattle.bz_waits.specs.Waiting.{IsDue}
use Rattle.bz_waits.proofs.Passed.{first_here, none_more}
use Rattle.bz_waits.proofs.due.next_due.Goals as goal

pub returns-then-is_due : goal.returns-then-is_due
returns-then-is_due c =
    let n = c.args.core.now in
    first_here (IsDue n.wiring.sites n.state c.args.comp c.args.mv) c.args.past c.loop-place.place c.loop-place.invariant c.if-is_due.ensures

pub loop-place-preserved : goal.loop-place-preserved
loop-place-preserved c =
    let n = c.args.core.now in
    none_more (IsDue n.wiring.sites n.state c.args.comp c.args.mv) c.args.past c.loop-place.place c.loop-place.invariant c.if-is_due.ensures

pub returns : goal.returns
returns c = λ p from due. c.loop-place.invariant.none p from (let to = due.0.port_to in let ports = c.port_count-place-end.ensures in let end = c.loop-place-test.false in omega (arith, to, ports, end)) due
