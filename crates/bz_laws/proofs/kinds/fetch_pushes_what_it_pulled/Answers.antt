use Rattle.bz_laws.proofs.Turns as turns
use Rattle.bz_laws.proofs.kinds.fetch_pushes_what_it_pulled.Goals as goal

pub returns : goal.returns
returns c = turns.passed_on
