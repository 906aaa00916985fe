use Rattle.bz_explore_moves.proofs.Offered.{move_line_grows}
use Rattle.bz_explore_moves.proofs.moves.put_offer.Goals as goal

pub returns : goal.returns
returns c = move_line_grows c.args.offer _ _ _ _ _ c.put_move.ensures c.fill.ensures c.put_about.ensures c.put.ensures
