use Rattle.bz_cover.proofs.Watched.{shown_counted}
use Rattle.bz_cover.proofs.laws.runs_are_counted.Goals as goal

pub returns : goal.returns
returns c = shown_counted
