use Rattle.bz_model.specs.Nets.{opening}
use Rattle.bz_run_laws.proofs.Alive.{alive-opening, alive-run, one-head-at}
use Rattle.bz_run_laws.proofs.runs.ports_have_one_move.Goals as goal

pub returns : goal.returns
returns c = λ w es last comp wired run from to. one-head-at w wired last comp (alive-run w wired (opening w) es last (alive-opening w wired) run) from to
