use Rattle.bz_cover.proofs.Tallies.{then}
use Rattle.bz_cover.proofs.laws.traces_add_up.Goals as goal

pub returns : goal.returns
returns c = then
