use Rattle.std.proofs.Common.{arith}
use Rattle.bz_waits.proofs.Gathered.{adds_absent}
use Rattle.bz_waits.proofs.graph.add_if_there.Goals as goal

pub returns-then-comp-eq0 : goal.returns-then-comp-eq0
returns-then-comp-eq0 c =
    let n = c.args.core.now in
    let is = c.if-comp-eq0.true in
    adds_absent n.wiring.sites n.state c.args.comp c.args.waits.now.items c.requires (λ from to. omega (arith, is, from))

pub returns-then-comp-comp_count : goal.returns-then-comp-comp_count
returns-then-comp-comp_count c =
    let n = c.args.core.now in
    let past = c.if-comp-comp_count.true in
    let count = c.comp_count.ensures in
    adds_absent n.wiring.sites n.state c.args.comp c.args.waits.now.items c.requires (λ from to. omega (arith, past, count, to))
