use Rattle.std.proofs.Common.{◌≡◌}
use Rattle.bz_past.specs.Moments.{Leads}
use Rattle.bz_locked.specs.Making.{MadeNone}
use Rattle.bz_locked.proofs.shared.SharedNet.wait_told.Given as goal

abbrev pub invariant-loop : goal.invariant-loop
invariant-loop g l =
    (goal.iterator-loop g).can_next l.iterator' × (goal.iterator-loop g).is_finite l.iterator'
    × (l.owner.table ≡ l.initial.owner.table) × (l.owner.who ≡ l.initial.owner.who) × Leads l.initial.owner.seen l.owner.seen × MadeNone l.who l.initial.owner.seen l.owner.seen
