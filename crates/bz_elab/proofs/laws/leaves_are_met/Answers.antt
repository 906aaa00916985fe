use Rattle.bz_elab.proofs.Leaves.{leaves_are_met}
use Rattle.bz_elab.proofs.laws.leaves_are_met.Goals as goal

pub returns : goal.returns
returns c = leaves_are_met c.args._parts.now c.args._top.now
