use Rattle.std.proofs.Common.{◌≤◌, ℕ, Option, Some, None, subst, arith}
use Rattle.std.specs.Prelude.{IfNone}
use Rattle.std.proofs.lemmas.Option.{IfSome_then}
use Rattle.bz_net.specs.Keeping.{IsMarked}
use Rattle.bz_explore_net.specs.Picking.{HasMembers, IsPlace}
use Rattle.bz_explore_net.proofs.Picked.{has_none}
use Rattle.bz_explore_net.proofs.chance.pick_comp.Goals as goal

pub returns-then-count-eq0-clause-none : goal.returns-then-count-eq0-clause-none
returns-then-count-eq0-clause-none c = has_none (IsMarked c.args.movers.now) (subst (HasMembers (IsMarked c.args.movers.now)) c.if-count-eq0.true c.count-count.ensures)

pub returns-clause-comp : goal.returns-clause-comp
returns-clause-comp c =
    let row = c.args.movers.now in
    IfSome_then c.nth.result c.nth.ensures.some
    (λ comp is. (c.count-count.result, c.count-count.ensures, subst (λ place. IsPlace (IsMarked row) place comp) c.pick-place.ensures.picked is))

pub returns-clause-none : goal.returns-clause-none
returns-clause-none c = none c.nth.result c.nth.ensures.none
  where
    none : (o : Option ℕ) → IfNone o ((count : ℕ) → HasMembers (IsMarked c.args.movers.now) count → count ≤ c.pick-place.result) → IfNone o ((comp : ℕ) → IsMarked c.args.movers.now comp → ⊥)
    none None few = let le = few c.count-count.result c.count-count.ensures in let lt = c.pick-place.ensures.within in absurd (omega (arith, le, lt))
    none (Some k) few = tt
