use Rattle.bz_cover.proofs.Tallies.{add_up}
use Rattle.bz_cover.proofs.laws.counts_add_up.Goals as goal

pub returns : goal.returns
returns c = add_up
