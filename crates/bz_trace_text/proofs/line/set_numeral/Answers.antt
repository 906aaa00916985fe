use Rattle.std.proofs.Common.{◌≡◌, ◌+◌, [], ◌∷◌, ◌++◌, take, get_or, decimal, arith, rules, sym, ap, ◌∙◌, append_assoc}
use Rattle.bz_trace_text.proofs.Digits.{before_feed}
use Rattle.bz_trace_text.proofs.line.set_numeral.Goals as goal

pub returns-clause-text : goal.returns-clause-text
returns-clause-text c =
    let front = take c.args.at c.args.bytes.now in
    let numeral = c.index-spelled-place.result in
    let digits = decimal c.args.place in
    let told : take (get_or numeral.bytes 7 0 + 1) numeral.bytes ≡ digits ++ 10 ∷ [] = search rules in
    let line = c.set_counted.ensures.next ∙ ap (λ t. front ++ t) told ∙ sym (append_assoc front digits (10 ∷ [])) in
    before_feed c.set_counted.result c.set_counted.new.bytes (front ++ digits) (omega (arith, numeral.fits, c.set_counted.ensures.after)) line

pub returns-clause-ended : goal.returns-clause-ended
returns-clause-ended c =
    let front = take c.args.at c.args.bytes.now in
    let numeral = c.index-spelled-place.result in
    let digits = decimal c.args.place in
    let told : take (get_or numeral.bytes 7 0 + 1) numeral.bytes ≡ digits ++ 10 ∷ [] = search rules in
    let line = c.set_counted.ensures.next ∙ ap (λ t. front ++ t) told ∙ sym (append_assoc front digits (10 ∷ [])) in
    line ∙ ap (λ t. t ++ 10 ∷ []) (sym (returns-clause-text c))
