use Rattle.bz_run_laws.proofs.Seeing.{run-in}
use Rattle.bz_run_laws.proofs.parts.parts_run_in_place.Goals as goal

pub returns : goal.returns
returns c = λ part whole e es last own wired is run. run-in part whole e own wired is es last run
