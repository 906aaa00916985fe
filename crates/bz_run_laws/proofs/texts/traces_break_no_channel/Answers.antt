use Rattle.bz_run_laws.proofs.Telling.{text-unbroken}
use Rattle.bz_run_laws.proofs.texts.traces_break_no_channel.Goals as goal

pub returns : goal.returns
returns c = λ w text run wired. text-unbroken w wired text run
