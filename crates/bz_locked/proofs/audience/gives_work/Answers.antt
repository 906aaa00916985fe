use Rattle.bz_locked.proofs.Audiences.{has_work}
use Rattle.bz_locked.proofs.audience.gives_work.Goals as goal

pub returns-in-Host : goal.returns-in-Host
returns-in-Host c = rw c.in-Host.is (rw c.is_some.ensures (has_work c.args.net.now c.next_ready.result c.next_ready.ensures))
