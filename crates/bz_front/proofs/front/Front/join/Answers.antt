use Rattle.std.proofs.Common.{rules}
use Rattle.bz_front.proofs.Steps.{joins}
use Rattle.bz_front.proofs.front.Front.join.Goals as goal

pub join_seat-requires : goal.join_seat-requires
join_seat-requires c = (search rules, search rules, c.other.invariant.0, search rules, joins c.self.inside.table.shared.key c.seat.inside.seat.id c.seat.inside.seat.me.0 c.other.inside.seat.id c.other.inside.seat.me.0 c.seat.invariant.1)
