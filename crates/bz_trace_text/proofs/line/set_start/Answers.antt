use Rattle.std.proofs.Common.{[], ◌∷◌, ◌+◌, arith}
use Rattle.std.proofs.lemmas.Fmt.{decimal_digit}
use Rattle.bz_trace_text.proofs.Digits.{worded}
use Rattle.bz_trace_text.proofs.line.set_start.Goals as goal

pub returns-clause-text : goal.returns-clause-text
returns-clause-text c =
    let a = c.args in
    let word = 119 ∷ (48 + a.worker) ∷ 32 ∷ 102 ∷ 105 ∷ 114 ∷ 101 ∷ 32 ∷ [] in
    rw (decimal_digit a.worker (omega (arith, c.requires.digit))) (worded a.at a.bytes.now _ word _ (omega arith) c.set_word.ensures)
