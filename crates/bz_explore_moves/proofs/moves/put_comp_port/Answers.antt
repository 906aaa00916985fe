use Rattle.std.proofs.Common.{refl}
use Rattle.bz_view.proofs.Lines.{within_then}
use Rattle.bz_explore_moves.proofs.moves.put_comp_port.Goals as goal

pub returns-in-Some-port_at : goal.returns-in-Some-port_at
returns-in-Some-port_at c = within_then _ _ _ (c.put_in_line.ensures refl) c.put_port.ensures
