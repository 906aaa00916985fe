use Rattle.std.proofs.Common.{◌∙◌}
use Rattle.bz_explore_moves.proofs.Offered.{move_grows}
use Rattle.bz_explore_moves.proofs.moves.put_move.Goals as goal

pub returns : goal.returns
returns c =
    move_grows c.args.offer c.into.result c.into-2.result c.into-3.result c.as_bytes.result.now _ _ _ _ c.into.ensures c.into-2.ensures c.into-3.ensures (c.as_bytes.ensures.value ∙ c.word.ensures) c.put_pieces.ensures c.fill.ensures c.put_pieces-2.ensures
