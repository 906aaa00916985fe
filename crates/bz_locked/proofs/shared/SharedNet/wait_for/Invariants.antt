use Rattle.std.proofs.Common.{◌≡◌}
use Rattle.bz_past.specs.Moments.{Leads}
use Rattle.bz_locked.specs.Making.{MadeNone}
use Rattle.bz_locked.specs.Working.{HasBegun}
use Rattle.bz_locked.proofs.shared.SharedNet.wait_for.Given as goal

abbrev pub invariant-loop : goal.invariant-loop
invariant-loop g l =
    (goal.iterator-loop g).can_next l.iterator' × (goal.iterator-loop g).is_finite l.iterator'
    × (l.owner.table ≡ l.fn.owner.table) × (l.owner.who ≡ l.fn.owner.who) × Leads l.fn.owner.seen l.owner.seen × MadeNone l.who l.fn.owner.seen l.owner.seen
    × HasBegun g.L.NetLedger.terms.wiring l.who l.cmd l.fn.owner.seen l.owner.seen
