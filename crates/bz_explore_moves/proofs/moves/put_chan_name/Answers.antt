use Rattle.std.proofs.Common.{codes, refl}
use Rattle.bz_view.proofs.Lines.{within, within_then}
use Rattle.bz_explore_moves.proofs.moves.put_chan_name.Goals as goal

pub returns-in-Some : goal.returns-in-Some
returns-in-Some c = within_then _ _ _ c.go_on.ensures (within_then _ _ _ (within _ _ (codes "on ") refl c.put.ensures) c.put_name.ensures)
