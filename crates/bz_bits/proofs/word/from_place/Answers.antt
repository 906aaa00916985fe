use Rattle.std.proofs.Common.{◌==◌, ℕ, sym, ap, ◌∙◌, inl, inr, arith}
use Rattle.std.proofs.lemmas.Bool.{cases_lt, le-leb, lt-leb}
use Rattle.std.proofs.lemmas.Nat.Bits.{bit_at_ones, bit_at-zero}
use Rattle.bz_bits.proofs.word.from_place.Goals as goal

pub returns-then-place-lt64 : goal.returns-then-place-lt64
returns-then-place-lt64 c i lt =
    elim (cases_lt i c.args.place) [
      | inl before ↦ ap (λ (x : ℕ). x == 1) (c.above.ensures.below i before) ∙ sym (lt-leb c.args.place i before)
      | inr from ↦ ap (λ (x : ℕ). x == 1) (c.above.ensures.rest i from ∙ bit_at_ones 64 i lt) ∙ sym (le-leb c.args.place i from)
    ]

pub returns-else-place-lt64 : goal.returns-else-place-lt64
returns-else-place-lt64 c i lt =
    ap (λ (x : ℕ). x == 1) (bit_at-zero i) ∙ sym (lt-leb c.args.place i (omega (arith, c.if-place-lt64.false)))
