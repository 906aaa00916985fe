use Rattle.std.proofs.Common.{Some, ◌∷◌, ◌++◌, ap, ◌∙◌, arith}
use Rattle.std.proofs.lemmas.Str.Pattern.{split_parts}
use Rattle.bz_complete.proofs.reading.move_in.Goals as goal

pub returns : goal.returns
returns c =
    let at = c.in_ok-word in
    let parts = split_parts 32 c.args.line.now (Some (at.word, at.operands)) at.ensures.cases (omega arith) in
    (at.operands.now, parts.0 ∙ ap (λ w. w ++ 32 ∷ at.operands.now) c.in_ok-sent.ensures, c.in_ok-chan.ensures)
