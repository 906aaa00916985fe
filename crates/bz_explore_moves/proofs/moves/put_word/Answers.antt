use Rattle.bz_view.proofs.Lines.{line_grows}
use Rattle.bz_explore_moves.proofs.moves.put_word.Goals as goal

pub returns : goal.returns
returns c = line_grows _ _ _ _ _ _ c.put_word_alone.ensures c.fill.ensures c.put_port_state.ensures c.put.ensures
