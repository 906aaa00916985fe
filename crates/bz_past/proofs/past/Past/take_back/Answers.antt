use Rattle.std.proofs.Common.{◌≡◌, ap, ◌∙◌, ℕ, List, sym, rules}
use Rattle.bz_past.specs.Seen.{Halt, Kept, roll_of, used_of}
use Rattle.bz_past.specs.declared.view.View.{View}
use Rattle.bz_past.proofs.Steps.{halts_is, joins_stopper, takes_back, used_so}
use Rattle.bz_past.proofs.past.Past.take_back.Goals as goal

pub join_seat-requires : goal.join_seat-requires
join_seat-requires c =
    let keeper = c.keeper.inside.seat.me.0 in
    let stopper = c.stopper.inside.seat.me.0 in
    (search rules, search rules, c.stopper.invariant.1, search rules, joins_stopper c.self.inside.table.shared.key _ _ _ _ (roll_of keeper) (used_of stopper) c.keeper.invariant.0 c.stopper.invariant.0)

pub load-requires : goal.load-requires
load-requires c =
    let keeper = c.keeper.inside.seat.me.0 in
    let stopper = c.stopper.inside.seat.me.0 in
    let is = ap (λ (me : View × List (ℕ × Unit {0})). me.0) c.join_seat.ensures.2 ∙ halts_is keeper stopper (roll_of keeper) (used_of stopper) c.keeper.invariant.0 c.stopper.invariant.0 in
    (search rules, search rules, takes_back c.self.inside.table.shared.key _ _ c.join_seat.new.seat.me (roll_of keeper) (used_of stopper) is)

pub returns-clause-used : goal.returns-clause-used
returns-clause-used c =
    let keeper = c.keeper.inside.seat.me.0 in
    let stopper = c.stopper.inside.seat.me.0 in
    let is = ap (λ (me : View × List (ℕ × Unit {0})). me.0) c.join_seat.ensures.2 ∙ halts_is keeper stopper (roll_of keeper) (used_of stopper) c.keeper.invariant.0 c.stopper.invariant.0 in
    let told = c.load.ensures.2 in
    sym (ap (λ (k : Kept). k.used) c.keeper.view_is) ∙ used_so c.join_seat.new.seat.me.0 (roll_of keeper) told.0 (used_of stopper) told.1 told.2 is told.3 ∙ ap (λ (h : Halt). h.used) c.stopper.view_is
