use Rattle.std.proofs.Common.{◌∙◌, ◌∷◌, ap, sym, take, arith}
use Rattle.bz_kind_rows.specs.Texts.{pieces}
use Rattle.bz_kind_rows.proofs.Pieces.{split-none, split-at, rest-is}
use Rattle.bz_kind_rows.proofs.specification.split_piece.Goals as goal

pub returns-then-byte-separator-clause-pieces : goal.returns-then-byte-separator-clause-pieces
returns-then-byte-separator-clause-pieces c =
    split-at c.args.separator c.args.text.now c.loop-i.i (omega arith) c.loop-i.invariant c.if-byte-separator.true
    ∙ ap (λ rest. take c.loop-i.i c.args.text.now ∷ pieces c.args.separator rest) (sym (rest-is c.args.text.now c.loop-i.i))

pub returns-clause-pieces : goal.returns-clause-pieces
returns-clause-pieces c = split-none c.args.separator c.args.text.now (λ k lt. c.loop-i.invariant k (let t = c.loop-i-test.false in omega arith))
