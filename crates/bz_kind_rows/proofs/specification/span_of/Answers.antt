use Rattle.std.proofs.Common.{◌≢◌, None, arith}
use Rattle.std.specs.Option.{option_copied}
use Rattle.bz_kind_rows.proofs.Pieces.{no-four}
use Rattle.bz_kind_rows.proofs.specification.span_of.Goals as goal

pub returns-then-is_some : goal.returns-then-is_some
returns-then-is_some c =
    let one = rw c.in-Some.is at c.split_piece.ensures.pieces in
    let two = rw c.in-Some-after.is at c.split_piece-2.ensures.pieces in
    let some : option_copied c.split_piece-3.result.1 ≢ None = grind (arith) in
    no-four c.args.set c.args.text.now _ _ _ c.in-Some.after.now c.in-Some-after.after.now (option_copied c.split_piece-3.result.1) one two c.split_piece-3.ensures.pieces some
