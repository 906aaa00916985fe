use Rattle.std.proofs.Common.{◌≡◌}
use Rattle.bz_pool.proofs.work.Job.work_on.Given as goal

abbrev pub invariant-loop : goal.invariant-loop
invariant-loop g l =
    (goal.iterator-loop g).can_next l.iterator' × (goal.iterator-loop g).is_finite l.iterator'
    × (l.self.worker.who ≡ l.initial.self.worker.who) × (l.self.worker.seat.table ≡ l.shared.table)
