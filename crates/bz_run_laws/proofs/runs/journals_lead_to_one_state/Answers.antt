use Rattle.bz_run_laws.proofs.Telling.{last-is-sole}
use Rattle.bz_run_laws.proofs.runs.journals_lead_to_one_state.Goals as goal

pub returns : goal.returns
returns c = λ w es a b wired one other. last-is-sole w wired es a b one other
