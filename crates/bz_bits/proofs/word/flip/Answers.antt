use Rattle.std.proofs.Common.{◌-◌, Bool, ap, ◌∙◌}
use Rattle.std.specs.Int.{bit_at}
use Rattle.std.specs.Prelude.{if◌then◌else◌}
use Rattle.std.proofs.lemmas.Nat.Bits.{bit_at_xor, bit_at-lt}
use Rattle.bz_bits.proofs.Words.{turned_bit}
use Rattle.bz_bits.proofs.word.flip.Goals as goal

pub returns : goal.returns
returns c i lt =
    let w = c.args.word in let m = c.one_place.result in
    bit_at_xor w m i ∙ turned_bit (bit_at w i) (bit_at m i) (bit_at-lt w i) (bit_at-lt m i)
    ∙ ap (λ (b : Bool). if b then 1 - bit_at w i else bit_at w i) (c.one_place.ensures i lt)
