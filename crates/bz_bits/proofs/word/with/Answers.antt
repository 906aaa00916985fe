use Rattle.std.proofs.Common.{◌==◌, ℕ, Bool, sym, ap, ◌∙◌, min}
use Rattle.std.specs.Prelude.{if◌then◌else◌}
use Rattle.std.specs.Int.{bit_at, bit_not, from_bool, w64}
use Rattle.std.proofs.lemmas.Nat.Bits.{bit_at_and, bit_at_or, bit_at_not, bit_at-lt}
use Rattle.bz_bits.proofs.Words.{put_on, taken_off}
use Rattle.bz_bits.proofs.word.with.Goals as goal

pub returns-then-bit : goal.returns-then-bit
returns-then-bit c i lt =
    let w = c.args.word in let m = c.args.mask in
    bit_at_or w m i ∙ put_on (bit_at w i) (bit_at m i) (bit_at-lt w i) (bit_at-lt m i)
    ∙ ap (λ (b : Bool). if bit_at m i == 1 then from_bool b else bit_at w i) (sym c.if-bit.true)

pub returns-else-bit : goal.returns-else-bit
returns-else-bit c i lt =
    let w = c.args.word in let m = c.args.mask in
    bit_at_and w (bit_not w64 m) i ∙ ap (λ (x : ℕ). min (bit_at w i) x) (bit_at_not w64 m i c.ranges.mask.fits lt)
    ∙ taken_off (bit_at w i) (bit_at m i) (bit_at-lt w i) (bit_at-lt m i)
    ∙ ap (λ (b : Bool). if bit_at m i == 1 then from_bool b else bit_at w i) (sym c.if-bit.false)
