use Rattle.bz_net.proofs.Lines.{states_fit}
use Rattle.bz_net.proofs.laws.states_fit.Goals as goal

pub returns : goal.returns
returns c = states_fit
