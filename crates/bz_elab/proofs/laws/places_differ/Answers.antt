use Rattle.bz_elab.proofs.Distinct.{places_are_different}
use Rattle.bz_elab.proofs.laws.places_differ.Goals as goal

pub returns : goal.returns
returns c = places_are_different c.args._parts.now c.args._top.now
