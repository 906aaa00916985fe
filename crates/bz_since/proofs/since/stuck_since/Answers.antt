use Rattle.std.proofs.Common.{arith, refl, subst, sym}
use Rattle.bz_model.specs.Nets.{Wiring, opening}
use Rattle.bz_model.specs.Runs.{Run}
use Rattle.bz_since.specs.Since.{IsSince}
use Rattle.bz_since.proofs.Halves.{at_opening, begun}
use Rattle.bz_since.proofs.since.stuck_since.Goals as goal

pub returns-then-branch : goal.returns-then-branch
returns-then-branch c =
    let has = rw (c.if-branch.true, c.core.ensures.wiring, c.core.ensures.state) at c.in_ok-has_stuck.ensures in
    λ es last alike run. at_opening c.args.net.wiring c.args.net (record { line = 1; net = c.args.net }) es last refl refl refl c.requires has

pub loop-bounds-init : goal.loop-bounds-init
loop-bounds-init c =
    let free = rw (c.if-branch.false, c.core.ensures.wiring, c.core.ensures.state) at c.in_ok-has_stuck.ensures in
    (refl, begun c.args.entries.now c.args.net _ refl refl refl c.names.ensures.wired c.requires free)

pub found_at-requires-clause-met : goal.found_at-requires-clause-met
found_at-requires-clause-met c =
    let apart = c.loop-bounds.invariant.1.ordered in
    let closed = c.loop-bounds-test.false in
    omega (arith, apart, closed)

pub returns-in-Ok : goal.returns-in-Ok
returns-in-Ok c =
    let is = c.loop-bounds.invariant.0 in
    λ es last alike run. subst (λ (w : Wiring). IsSince w es last c.in-Ok.found) is
    (c.in-Ok.ensures es last alike (subst (λ (w : Wiring). Run w (opening w) es last) (sym is) run))
