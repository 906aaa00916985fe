use Rattle.bz_elab.proofs.Reaching.{reached_all}
use Rattle.bz_elab.proofs.reach.reached.Goals as goal

pub returns : goal.returns
returns c = reached_all c.args.parts.now c.args.start c.in_ok-marks.marks.items c.requires c.in_ok-marks.ensures
