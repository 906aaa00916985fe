use Rattle.std.proofs.Common.{codes, refl}
use Rattle.bz_view.proofs.Lines.{within, within_then}
use Rattle.bz_view.proofs.naming.put_instance.Goals as goal

pub returns : goal.returns
returns c = within_then _ _ _ (within _ _ (codes "in ") refl c.put.ensures) (within_then _ _ _ c.put_path.ensures (c.put_in_line.ensures refl))
