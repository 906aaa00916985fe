use Rattle.std.proofs.Common.{rules}
use Rattle.bz_front.proofs.Steps.{loads}
use Rattle.bz_front.proofs.front.Front.read.Goals as goal

pub load-requires : goal.load-requires
load-requires c = (search rules, search rules, loads c.self.inside.table.shared.key _ c.seat.inside.seat.id c.seat.inside.seat.me c.seat.invariant.1)
