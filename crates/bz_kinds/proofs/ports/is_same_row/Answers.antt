use Rattle.std.proofs.Common.{◌≤◌, ◌∙◌, sym, length, arith}
use Rattle.std.proofs.lemmas.List.{take_all, take_more_same}
use Rattle.bz_kinds.proofs.ports.is_same_row.Goals as goal

pub loop-port-preserved : goal.loop-port-preserved
loop-port-preserved c =
    take_more_same c.args.numbers.now c.args.others.now c.loop-port.port 0 (omega arith) (omega arith) c.loop-port.invariant (cc)

pub returns : goal.returns
returns c is =
    let mine : length c.args.numbers.now ≤ c.loop-port.port = omega arith in
    let other : length c.args.others.now ≤ c.loop-port.port = omega arith in
    sym (take_all c.loop-port.port c.args.numbers.now mine) ∙ c.loop-port.invariant ∙ take_all c.loop-port.port c.args.others.now other
