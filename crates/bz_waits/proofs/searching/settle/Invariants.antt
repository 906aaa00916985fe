use Rattle.bz_waits.specs.Freeing.{Covers}
use Rattle.bz_waits.proofs.Freeing.{member_count}
use Rattle.bz_waits.proofs.searching.settle.Given as goal

abbrev pub invariant-settling : goal.invariant-settling
invariant-settling l = Covers l.core.wiring l.core.state l.members.items

abbrev pub decreases-settling : goal.decreases-settling
decreases-settling l = member_count l.members.items
