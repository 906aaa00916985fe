use Rattle.std.proofs.Common.{rules}
use Rattle.bz_past.specs.Seen.{roll_of}
use Rattle.bz_past.proofs.Steps.{tells}
use Rattle.bz_past.proofs.past.Past.settle.Goals as goal

pub load-requires : goal.load-requires
load-requires c = (search rules, search rules, tells c.self.inside.table.shared.key _ _ _ (roll_of c.keeper.inside.seat.me.0) c.keeper.invariant.0)
