use Rattle.bz_trace.proofs.Accepted.{accepted, accepted_1}
use Rattle.bz_run_laws.proofs.texts.traces_of_runs_are_accepted.Goals as goal

pub returns-clause-second : goal.returns-clause-second
returns-clause-second c = λ w es last text run by few is. accepted w es last text (run, by) few is

pub returns-clause-first : goal.returns-clause-first
returns-clause-first c = λ w es last run by few. accepted_1 w es last (run, by) few
