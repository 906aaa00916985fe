use Rattle.std.proofs.Common.{◌⊎◌, ◌*◌, ◌≤◌, length, subst}
use Rattle.bz_kinds.specs.Ports.{NoneDueIn, SomeDueIn}
use Rattle.bz_kinds.proofs.PortLaws.{none_due_in, some_due_in}
use Rattle.bz_kinds.proofs.ports.Ports.next_due.Goals as goal

pub returns-clause-passed : goal.returns-clause-passed
returns-clause-passed c k from to = subst (λ w. NoneDueIn w k) c.self.view_is (none_due_in c.self.inside.numbers k (c.next_odd.ensures.passed k from to))

pub returns-clause-stops : goal.returns-clause-stops
returns-clause-stops c = subst (λ w. (length w ≤ 64 * c.next_odd.result) ⊎ SomeDueIn w c.next_odd.result) c.self.view_is (some_due_in c.self.inside.numbers c.next_odd.result c.next_odd.ensures.stops)
