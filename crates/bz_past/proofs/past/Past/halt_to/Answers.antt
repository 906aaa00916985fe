use Rattle.std.proofs.Common.{◌≡◌, [], ap, ◌∙◌, ℕ, List, sym, subst, true, rules}
use Rattle.bz_past.specs.Moments.{Leads}
use Rattle.bz_past.specs.Rules.{halted}
use Rattle.bz_past.specs.Seen.{Kept, roll_of, used_of}
use Rattle.bz_past.specs.declared.view.Moment.{Moment}
use Rattle.bz_past.specs.declared.view.View.{View}
use Rattle.bz_past.proofs.Steps.{by_stopper, halts_is, joins_stopper, splits_nothing, splits_stopper}
use Rattle.bz_past.proofs.past.Past.halt_to.Goals as goal

pub split_seat-nothing-requires : goal.split_seat-nothing-requires
split_seat-nothing-requires g c = (search rules, search rules, splits_nothing c.self.inside.table.shared.key _ _ (roll_of c.keeper.inside.seat.me.0) c.keeper.invariant.0)

pub join_seat-requires : goal.join_seat-requires
join_seat-requires g c =
    let keeper = c.keeper.inside.seat.me.0 in
    let stopper = c.stopper.inside.seat.me.0 in
    let keeps = ap (λ (me : View × List (ℕ × Unit {0})). me.0) c.split_seat-nothing.ensures.2 ∙ c.keeper.invariant.0 in
    let stops = ap (λ s. s.me.0) c.replace-seat.ensures.value ∙ c.stopper.invariant.0 in
    (search rules, search rules, ap (λ s. s.me.1) c.replace-seat.ensures.value ∙ c.stopper.invariant.1, search rules, joins_stopper c.self.inside.table.shared.key _ _ _ _ (roll_of keeper) (used_of stopper) keeps stops)

pub load-requires : goal.load-requires
load-requires g c =
    let keeper = c.keeper.inside.seat.me.0 in
    let stopper = c.stopper.inside.seat.me.0 in
    let keeps = ap (λ (me : View × List (ℕ × Unit {0})). me.0) c.split_seat-nothing.ensures.2 ∙ c.keeper.invariant.0 in
    let stops = ap (λ s. s.me.0) c.replace-seat.ensures.value ∙ c.stopper.invariant.0 in
    let halts = ap (λ (me : View × List (ℕ × Unit {0})). me.0) c.join_seat.ensures.2 ∙ halts_is c.split_seat-nothing.new.seat.me.0 c.replace-seat.result.me.0 (roll_of keeper) (used_of stopper) keeps stops in
    let Onward : Moment → Type 0 = λ m. (leads : Leads m _) × (leads.rest ≡ []) × (leads.later ≡ []) in
    let onward = subst Onward (sym (ap (λ (k : Kept). k.now) c.keeper.view_is)) c.requires.onward in
    (search rules, search rules, by_stopper c.self.inside.table.shared.key _ _ c.join_seat.new.seat.me (roll_of keeper) (used_of stopper) _ halts onward.0 onward.1 onward.2)

pub split_seat-requires : goal.split_seat-requires
split_seat-requires g c =
    let told = c.load.ensures.2 in
    (search rules, search rules, splits_stopper c.self.inside.table.shared.key _ _ (halted told.0 _) true (ap (λ (me : View × List (ℕ × Unit {0})). me.0) told.3))
