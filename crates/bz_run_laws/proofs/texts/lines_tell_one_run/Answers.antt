use Rattle.bz_run_laws.proofs.Telling.{lines-tell-run}
use Rattle.bz_run_laws.proofs.texts.lines_tell_one_run.Goals as goal

pub returns : goal.returns
returns c = λ w es fs a b wired one other mine yours same. lines-tell-run w wired es fs a b one other mine yours same
