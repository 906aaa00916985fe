use Rattle.bz_cli_waits.proofs.Waited.{told_same}
use Rattle.bz_cli_waits.proofs.behind.waits.Goals as goal

pub returns-in-Ok-with_source : goal.returns-in-Ok-with_source
returns-in-Ok-with_source g c =
    told_same c.args.played.judged.net.wiring c.args.trace.now c.args.asked c.in-Ok.told.is_stuck c.in-Ok-with_source.told.is_stuck c.in-Ok-with_source.ensures c.in-Ok.ensures
