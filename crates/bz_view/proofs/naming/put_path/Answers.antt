use Rattle.std.proofs.Common.{refl}
use Rattle.bz_view.proofs.Lines.{within_then}
use Rattle.bz_view.proofs.naming.put_path.Goals as goal

pub loop-step-preserved : goal.loop-step-preserved
loop-step-preserved c = within_then _ _ _ c.loop-step.invariant (c.put_in_line-in-loop-step.ensures refl)
