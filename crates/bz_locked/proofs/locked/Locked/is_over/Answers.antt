use Rattle.bz_locked.proofs.Audiences.{not_while_ready}
use Rattle.bz_locked.proofs.locked.Locked.is_over.Goals as goal

pub returns-in-Some-Ready : goal.returns-in-Some-Ready
returns-in-Some-Ready g c =
    let was = c.args.self.now in
    not_while_ready was.net was.fuel was.stopped was.sessions.items (rw c.in-Some-Ready.field-0-is at c.in-Some-Ready.ensures.told)
