use Rattle.bz_view.proofs.Lines.{within_then}
use Rattle.bz_explore_moves.proofs.moves.put_instance_of.Goals as goal

pub returns-in-Some : goal.returns-in-Some
returns-in-Some c = within_then _ _ _ c.go_on.ensures c.put_instance.ensures
