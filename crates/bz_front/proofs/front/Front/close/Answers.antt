use Rattle.bz_front.proofs.Steps.{closes}
use Rattle.bz_front.proofs.front.Front.close.Goals as goal

pub returns-clause-later : goal.returns-clause-later
returns-clause-later c =
    let e = c.close_with-closed.ensures.values.2 in
    rw (← c.seat.view_is) (closes c.self.inside.table.shared.key c.seat.inside.seat.id c.seat.inside.seat.me.0 _ _ c.word-greatest.result e c.word-greatest.ensures).0

pub returns-clause-greatest : goal.returns-clause-greatest
returns-clause-greatest c =
    let e = c.close_with-closed.ensures.values.2 in
    rw (← c.seat.view_is, ← c.self.view_is) (closes c.self.inside.table.shared.key c.seat.inside.seat.id c.seat.inside.seat.me.0 _ _ c.word-greatest.result e c.word-greatest.ensures).1
