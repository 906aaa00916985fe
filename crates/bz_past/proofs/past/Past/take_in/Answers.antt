use Rattle.std.proofs.Common.{ap, ◌∙◌, ℕ, List, subst, rules}
use Rattle.bz_past.specs.Owners.{LeadsWithout}
use Rattle.bz_past.specs.Seen.{Kept, Sight, roll_of, saw_of, whose}
use Rattle.bz_past.specs.declared.view.View.{View}
use Rattle.bz_past.proofs.Steps.{before_so, joined_is, joins, takes_in}
use Rattle.bz_past.proofs.past.Past.take_in.Goals as goal

pub join_seat-requires : goal.join_seat-requires
join_seat-requires c =
    let keeper = c.keeper.inside.seat.me.0 in
    let owner = c.owner.inside.seat.me.0 in
    (search rules, search rules, c.owner.invariant.1, search rules, joins c.self.inside.table.shared.key _ _ _ _ (roll_of keeper) (whose owner) (saw_of owner) c.keeper.invariant.0 c.owner.invariant.0)

pub load-requires : goal.load-requires
load-requires c =
    let keeper = c.keeper.inside.seat.me.0 in
    let owner = c.owner.inside.seat.me.0 in
    let is = ap (λ (me : View × List (ℕ × Unit {0})). me.0) c.join_seat.ensures.2 ∙ joined_is keeper owner (roll_of keeper) (whose owner) (saw_of owner) c.keeper.invariant.0 c.owner.invariant.0 in
    (search rules, search rules, takes_in c.self.inside.table.shared.key _ _ c.join_seat.new.seat.me (roll_of keeper) (whose owner) (saw_of owner) is)

pub returns-clause-before : goal.returns-clause-before
returns-clause-before c =
    let keeper = c.keeper.inside.seat.me.0 in
    let owner = c.owner.inside.seat.me.0 in
    let is = ap (λ (me : View × List (ℕ × Unit {0})). me.0) c.join_seat.ensures.2 ∙ joined_is keeper owner (roll_of keeper) (whose owner) (saw_of owner) c.keeper.invariant.0 c.owner.invariant.0 in
    let told = c.load.ensures.2 in
    let led = before_so c.join_seat.new.seat.me.0 told.0 (roll_of keeper) told.1 (whose owner) told.2 (saw_of owner) is told.3 told.4 in
    subst (λ (s : Sight). LeadsWithout s.who s.seen c.args.keeper.now.now) c.owner.view_is (subst (λ (k : Kept). LeadsWithout (whose owner) (saw_of owner) k.now) c.keeper.view_is led)
