use Rattle.std.proofs.Common.{[], ◌∷◌, refl, arith}
use Rattle.bz_words.specs.Words.{nothing, itself, by_number}
use Rattle.bz_words.proofs.words.name_byte.Goals as goal

pub returns-in_ok-hex_digit-in-37-2-clause-some : goal.returns-in_ok-hex_digit-in-37-2-clause-some
returns-in_ok-hex_digit-in-37-2-clause-some c =
    let high = c.in_ok-high-in-37 in
    let low = c.in_ok-low-in-37 in
    let above = c.in_ok-hex_digit-in-37.ensures in
    let below = c.in_ok-hex_digit-in-37-2.ensures in
    (c.args.first ∷ high.high.now ∷ low.low.now ∷ [], cc (high.ensures.cases.0, low.ensures.cases.0), by_number c.in-37.is above.0 below.0 (rw (above.1, below.1)) nothing)

pub returns-in_default-clause-some : goal.returns-in_default-clause-some
returns-in_default-clause-some c = (c.args.first ∷ [], refl, itself (λ e. omega arith) (λ e. omega arith) nothing)
