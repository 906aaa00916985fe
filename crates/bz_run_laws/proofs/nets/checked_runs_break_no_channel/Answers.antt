use Rattle.bz_run_laws.proofs.Telling.{text-unbroken}
use Rattle.bz_run_laws.proofs.nets.checked_runs_break_no_channel.Goals as goal

pub returns : goal.returns
returns c = λ text run. text-unbroken c.args.net.now.wiring c.names-names.ensures.wired text run
