use Rattle.bz_run_laws.proofs.Telling.{text-tells-run}
use Rattle.bz_run_laws.proofs.texts.traces_tell_one_run.Goals as goal

pub returns : goal.returns
returns c = λ w text one other wired. text-tells-run w wired text one other
