use Rattle.std.proofs.Common.{◌==◌, ◌+◌, ◌*◌, ◌%◌, ℕ, true, ap, ◌∙◌}
use Rattle.std.specs.Int.{bit_at, from_bool}
use Rattle.bz_bits.proofs.Words.{both_filled}
use Rattle.bz_bits.proofs.numbers.whole_word.Goals as goal

pub returns-clause-each : goal.returns-clause-each
returns-clause-each c i lt =
    let s = c.args.number in
    ap (λ (x : ℕ). x + 2 * bit_at c.all_or_none-2.result i) (c.all_or_none.ensures.each i lt)
    ∙ ap (λ (x : ℕ). from_bool (s % 2 == 1) + 2 * x) (c.all_or_none-2.ensures.each i lt) ∙ both_filled true s 0 0 c.requires.number
