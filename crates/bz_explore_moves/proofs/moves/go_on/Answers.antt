use Rattle.bz_view.proofs.Lines.{within_blanks}
use Rattle.bz_explore_moves.proofs.moves.go_on.Goals as goal

pub returns : goal.returns
returns c = within_blanks _ _ c.fill.ensures
