use Rattle.bz_cli_waits.proofs.told.told_of.Goals as goal

pub returns-in-Some : goal.returns-in-Some
returns-in-Some c = rw c.in_ok-net.ensures.net at c.told_before.ensures

pub returns-in-None : goal.returns-in-None
returns-in-None c = rw c.in_ok-net.ensures.net at c.told_at_end.ensures
