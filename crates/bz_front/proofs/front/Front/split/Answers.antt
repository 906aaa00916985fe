use Rattle.std.proofs.Common.{rules}
use Rattle.bz_front.proofs.Steps.{splits}
use Rattle.bz_front.proofs.front.Front.split.Goals as goal

pub split_seat-part-requires : goal.split_seat-part-requires
split_seat-part-requires c = (search rules, search rules, splits c.self.inside.table.shared.key c.seat.inside.seat.id c.seat.inside.seat.me.0 (search rules))
