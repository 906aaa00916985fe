use Rattle.std.proofs.Common.{rules}
use Rattle.bz_past.specs.Seen.{roll_of}
use Rattle.bz_past.proofs.Steps.{splits_host}
use Rattle.bz_past.proofs.past.Past.next_host.Goals as goal

pub split_seat-seat-requires : goal.split_seat-seat-requires
split_seat-seat-requires c = (search rules, search rules, splits_host c.self.inside.table.shared.key _ _ (roll_of c.keeper.inside.seat.me.0) c.keeper.invariant.0)
