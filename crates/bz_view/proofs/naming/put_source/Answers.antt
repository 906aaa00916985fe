use Rattle.std.proofs.Common.{refl}
use Rattle.bz_view.proofs.Lines.{within_then}
use Rattle.bz_view.proofs.naming.put_source.Goals as goal

pub returns : goal.returns
returns c = within_then _ _ _ c.put_name.ensures (c.put_in_line.ensures refl)
