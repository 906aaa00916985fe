use Rattle.bz_elab.proofs.Rising.{stops_rise}
use Rattle.bz_elab.proofs.laws.stops_rise.Goals as goal

pub returns : goal.returns
returns c = stops_rise c.args._parts.now c.args._top.now
