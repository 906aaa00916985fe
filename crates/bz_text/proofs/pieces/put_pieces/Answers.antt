use Rattle.std.proofs.Common.{arith}
use Rattle.std.proofs.lemmas.Result.{err_from_is_err_and}
use Rattle.bz_text.specs.Pieces.{piece_text}
use Rattle.bz_text.proofs.Sent.{stops_at}
use Rattle.bz_text.proofs.pieces.put_pieces.Goals as goal

pub returns-in_err-put_piece : goal.returns-in_err-put_piece
returns-in_err-put_piece g c =
    let p = err_from_is_err_and c.from_residual.result c.from_residual.ensures.1 in
    rw p.1 (stops_at _ _ _ piece_text c.args.pieces.now c.loop-piece.piece-index _ (omega arith) c.loop-piece.invariant c.in_err-put_piece.ensures)
