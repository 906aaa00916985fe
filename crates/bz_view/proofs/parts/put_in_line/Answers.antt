use Rattle.bz_view.proofs.Lines.{pieces_clear, within}
use Rattle.bz_view.proofs.parts.put_in_line.Goals as goal

pub returns : goal.returns
returns c = λ stays. within _ _ _ (pieces_clear c.args.pieces.now stays) c.put_pieces.ensures
