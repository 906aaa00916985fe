use Rattle.bz_model.specs.Nets.{opening}
use Rattle.bz_run_laws.proofs.Alive.{alive-opening, alive-run, unbroken, unbroken-run}
use Rattle.bz_run_laws.proofs.runs.runs_break_no_channel.Goals as goal

pub returns-clause-last : goal.returns-clause-last
returns-clause-last c = λ w es last wired run. unbroken w wired last (alive-run w wired (opening w) es last (alive-opening w wired) run)

pub returns-clause-ever : goal.returns-clause-ever
returns-clause-ever c = λ w es last wired run. unbroken-run w wired (opening w) es last (alive-opening w wired) run
