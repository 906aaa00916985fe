use Rattle.std.proofs.Common.{◌*◌, ◌==◌, ◌&&◌, ℕ, Bool, ap, ◌∙◌}
use Rattle.std.specs.Prelude.{not, nat_le}
use Rattle.std.specs.Int.{bit_at, bit_not, w64}
use Rattle.std.proofs.lemmas.Nat.Bits.{bit_at_not, bit_at-lt}
use Rattle.bz_bits.proofs.States.{both, other}
use Rattle.bz_bits.proofs.Words.{window}
use Rattle.bz_bits.proofs.word.places.Goals as goal

pub returns : goal.returns
returns c i lt =
    let a = c.from_place.result in let b = c.from_place-2.result in
    both a (bit_not w64 b) i
    ∙ ap (λ (x : Bool). x && (bit_at (bit_not w64 b) i == 1)) (c.from_place.ensures i lt)
    ∙ ap (λ (x : Bool). nat_le c.saturating_sub.result i && x) (ap (λ (x : ℕ). x == 1) (bit_at_not w64 b i c.from_place-2.type_inv lt) ∙ other (bit_at b i) (bit_at-lt b i) ∙ ap not (c.from_place-2.ensures i lt))
    ∙ window c.args.from c.args.to (64 * c.args.at) i c.saturating_sub.result c.saturating_sub.ensures c.requires
