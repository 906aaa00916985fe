use Rattle.std.proofs.Common.{◌≡◌, ◌⊎◌, true, ap, ◌∙◌, ℕ, List, sym, subst, rules}
use Rattle.bz_past.specs.Owners.{IsNamed, LeadsBy, LeadsWithout}
use Rattle.bz_past.specs.Rules.{at_moment}
use Rattle.bz_past.specs.Seen.{Kept, Sight, roll_of, saw_of, whose}
use Rattle.bz_past.specs.Stopping.{IsRefused}
use Rattle.bz_past.specs.declared.view.View.{View}
use Rattle.bz_past.proofs.Steps.{before_so, by_owner, joined_is, joins, named_so, splits_nothing, splits_parts}
use Rattle.bz_past.proofs.past.Past.act_to.Goals as goal

pub split_seat-nothing-requires : goal.split_seat-nothing-requires
split_seat-nothing-requires g c = (search rules, search rules, splits_nothing c.self.inside.table.shared.key _ _ (roll_of c.keeper.inside.seat.me.0) c.keeper.invariant.0)

pub join_seat-requires : goal.join_seat-requires
join_seat-requires g c =
    let keeper = c.keeper.inside.seat.me.0 in
    let owner = c.owner.inside.seat.me.0 in
    let keeps = ap (λ (me : View × List (ℕ × Unit {0})). me.0) c.split_seat-nothing.ensures.2 ∙ c.keeper.invariant.0 in
    let owns = ap (λ s. s.me.0) c.replace-seat.ensures.value ∙ c.owner.invariant.0 in
    (search rules, search rules, ap (λ s. s.me.1) c.replace-seat.ensures.value ∙ c.owner.invariant.1, search rules, joins c.self.inside.table.shared.key _ _ _ _ (roll_of keeper) (whose owner) (saw_of owner) keeps owns)

pub load-requires : goal.load-requires
load-requires g c =
    let keeper = c.keeper.inside.seat.me.0 in
    let owner = c.owner.inside.seat.me.0 in
    let keeps = ap (λ (me : View × List (ℕ × Unit {0})). me.0) c.split_seat-nothing.ensures.2 ∙ c.keeper.invariant.0 in
    let owns = ap (λ s. s.me.0) c.replace-seat.ensures.value ∙ c.owner.invariant.0 in
    let acts = ap (λ (me : View × List (ℕ × Unit {0})). me.0) c.join_seat.ensures.2 ∙ joined_is c.split_seat-nothing.new.seat.me.0 c.replace-seat.result.me.0 (roll_of keeper) (whose owner) (saw_of owner) keeps owns in
    let onward = subst (λ (s : Sight). LeadsBy s.who (roll_of keeper).now _) (sym c.owner.view_is) (subst (λ (k : Kept). LeadsBy c.args.owner.now.who k.now _) (sym c.keeper.view_is) c.requires.onward) in
    let why = subst (λ (s : Sight). (g.B.Mark.moment.stopped ≡ true) → ((roll_of keeper).now.stopped ≡ true) ⊎ IsRefused s.who (roll_of keeper).now.net) (sym c.owner.view_is) (subst (λ (k : Kept). (g.B.Mark.moment.stopped ≡ true) → (k.now.stopped ≡ true) ⊎ IsRefused c.args.owner.now.who k.now.net) (sym c.keeper.view_is) c.requires.why) in
    (search rules, search rules, by_owner c.self.inside.table.shared.key _ _ c.join_seat.new.seat.me (roll_of keeper) (whose owner) (saw_of owner) _ acts onward why)

pub split_seat-requires : goal.split_seat-requires
split_seat-requires g c =
    let told = c.load.ensures.2 in
    (search rules, search rules, splits_parts c.self.inside.table.shared.key _ _ (at_moment told.0 _) told.1 _ (ap (λ (me : View × List (ℕ × Unit {0})). me.0) told.6))

pub returns-clause-before : goal.returns-clause-before
returns-clause-before g c =
    let keeper = c.keeper.inside.seat.me.0 in
    let owner = c.owner.inside.seat.me.0 in
    let keeps = ap (λ (me : View × List (ℕ × Unit {0})). me.0) c.split_seat-nothing.ensures.2 ∙ c.keeper.invariant.0 in
    let owns = ap (λ s. s.me.0) c.replace-seat.ensures.value ∙ c.owner.invariant.0 in
    let acts = ap (λ (me : View × List (ℕ × Unit {0})). me.0) c.join_seat.ensures.2 ∙ joined_is c.split_seat-nothing.new.seat.me.0 c.replace-seat.result.me.0 (roll_of keeper) (whose owner) (saw_of owner) keeps owns in
    let told = c.load.ensures.2 in
    let led = before_so c.join_seat.new.seat.me.0 told.0 (roll_of keeper) told.1 (whose owner) told.2 (saw_of owner) acts told.3 told.4 in
    subst (λ (s : Sight). LeadsWithout s.who s.seen c.args.keeper.now.now) c.owner.view_is (subst (λ (k : Kept). LeadsWithout (whose owner) (saw_of owner) k.now) c.keeper.view_is led)

pub returns-clause-named : goal.returns-clause-named
returns-clause-named g c =
    let keeper = c.keeper.inside.seat.me.0 in
    let owner = c.owner.inside.seat.me.0 in
    let keeps = ap (λ (me : View × List (ℕ × Unit {0})). me.0) c.split_seat-nothing.ensures.2 ∙ c.keeper.invariant.0 in
    let owns = ap (λ s. s.me.0) c.replace-seat.ensures.value ∙ c.owner.invariant.0 in
    let acts = ap (λ (me : View × List (ℕ × Unit {0})). me.0) c.join_seat.ensures.2 ∙ joined_is c.split_seat-nothing.new.seat.me.0 c.replace-seat.result.me.0 (roll_of keeper) (whose owner) (saw_of owner) keeps owns in
    let told = c.load.ensures.2 in
    let named = named_so c.join_seat.new.seat.me.0 told.0 (roll_of keeper) told.1 (whose owner) told.2 (saw_of owner) acts told.3 told.5 in
    subst (λ (s : Sight). IsNamed c.args.keeper.now.hosts c.args.keeper.now.workers s.who) c.owner.view_is (subst (λ (k : Kept). IsNamed k.hosts k.workers (whose owner)) c.keeper.view_is named)
