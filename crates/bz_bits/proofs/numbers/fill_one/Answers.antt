use Rattle.std.proofs.Common.{◌≡◌, ◌==◌, ◌<◌, ◌∷◌, ◌+◌, ◌/◌, List, length, ap, ◌∙◌, arith}
use Rattle.std.specs.Prelude.{if◌then◌else◌}
use Rattle.std.specs.Int.{bit_at}
use Rattle.bz_bits.specs.declared.word.PortWord.{PortWord}
use Rattle.bz_bits.specs.PortWords.{no_ports, number_in, number_at}
use Rattle.bz_bits.proofs.Words.{filled_all, get_tail, in_word, set_tail, word_filled}
use Rattle.bz_bits.proofs.numbers.fill_one.Goals as goal

pub returns-clause-filled : goal.returns-clause-filled
returns-clause-filled c first p =
    let more = c.args.more.now in let old = first ∷ more in let new = first ∷ c.put_far.new.more in
    let port = c.args.port in let at = port / 64 in let s = c.args.number in let mask = c.one_place.result in
    let behind : at ≡ 0 → ⊥ = λ e. omega (arith, e, c.requires.far) in
    let held : at < length old = omega (arith, c.requires.fits) in
    filled_all old new port (port + 1) s at (at + 1) (omega arith) (omega arith) (λ p.
    ap (λ (l : List PortWord). number_at (first ∷ l) p) c.put_far.ensures.put ∙ ap (λ (l : List PortWord). number_at l p) (set_tail first c.filled-word.result more at behind)
    ∙ word_filled old port (port + 1) at s mask c.filled-word.result held
    (λ i lt. c.one_place.ensures i lt ∙ in_word port i)
    (λ i lt. c.filled-word.ensures i lt ∙ ap (λ (w : PortWord). if bit_at mask i == 1 then s else number_in w i) (get_tail first no_ports more at behind)) p) p
