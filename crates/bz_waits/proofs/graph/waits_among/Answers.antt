use Rattle.std.proofs.Common.{◌≤◌, length, List, ℕ, subst, arith}
use Rattle.std.proofs.lemmas.List.{take_all}
use Rattle.bz_waits.specs.Waiting.{AreWaitsOf}
use Rattle.bz_waits.proofs.Gathered.{among_none}
use Rattle.bz_waits.proofs.graph.waits_among.Goals as goal

pub loop-place-init : goal.loop-place-init
loop-place-init c = rw c.new-waits.ensures.items (among_none c.args.core.now.wiring.sites c.args.core.now.state)

pub returns : goal.returns
returns c =
    let n = c.args.core.now in
    let all = c.args.comps.now in
    let end : length all ≤ c.loop-place.place = omega arith in
    subst (λ (comps : List ℕ). AreWaitsOf n.wiring.sites n.state comps c.loop-place.waits.items) (take_all c.loop-place.place all end) c.loop-place.invariant
