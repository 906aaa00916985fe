use Rattle.std.proofs.Common.{◌==◌, ◌+◌, ◌*◌, ◌&&◌, ℕ, Bool, ap, ◌∙◌, arith}
use Rattle.std.specs.Prelude.{not}
use Rattle.std.specs.Int.{bit_at, bit_not, w64}
use Rattle.std.proofs.lemmas.Nat.Bits.{bit_at_not, bit_at-lt}
use Rattle.bz_bits.specs.PortWords.{between}
use Rattle.bz_bits.proofs.States.{both, other}
use Rattle.bz_kinds.proofs.ReadyLaws.{sense_signal}
use Rattle.bz_kinds.proofs.sense.all_but_two.Goals as goal

pub returns : goal.returns
returns c n i lt =
    let a = c.span.result in let b = c.span-2.result in let p = 64 * c.args.at + i in
    both a (bit_not w64 b) i
    ∙ ap (λ (x : Bool). x && (bit_at (bit_not w64 b) i == 1)) (c.span.ensures i lt)
    ∙ ap (λ (x : Bool). between 1 c.args.end p && x) (ap (λ (x : ℕ). x == 1) (bit_at_not w64 b i c.span-2.type_inv lt) ∙ other (bit_at b i) (bit_at-lt b i) ∙ ap not (c.span-2.ensures i lt))
    ∙ sense_signal n c.args.end p (omega (arith, lt, c.requires.end))
