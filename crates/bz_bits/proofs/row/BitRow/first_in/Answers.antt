use Rattle.std.proofs.Common.{◌≡◌, ◌<◌, ◌≤◌, ◌+◌, ◌*◌, ◌/◌, ◌%◌, ◌^◌, ℕ, Bool, true, false, List, Some, length, get_or, sym, ap, ◌∙◌, subst, inl, inr, arith}
use Rattle.std.proofs.lemmas.Bool.{cases_lt, true≢false}
use Rattle.std.proofs.lemmas.List.{get_or_read}
use Rattle.std.specs.Int.{bit_at, trailing_zeros, w64}
use Rattle.bz_bits.specs.Row.{bits, IsNextInWord, IsRow}
use Rattle.bz_bits.proofs.Rows.{length-bits, word_in, none_found, first_found}
use Rattle.bz_bits.proofs.Search.{one_within}
use Rattle.bz_bits.proofs.row.BitRow.first_in.Goals as goal

-- word `at` has a 1 at place k
module _ (words : List ℕ) (n at k w : ℕ) (row : IsRow words n) (within : k / 64 ≡ at) (one : get_or (bits words n) k false ≡ true) where
  held : 64 * at < n
  held = omega (arith, within, one_within (bits words n) k one, length-bits words n)

  same : 64 * at / 64 ≡ at
  same = omega arith

  there : at < length words
  there = omega (arith, word_in words n row (64 * at) held, same)

  module _ (is : w ≡ get_or words at 0) where
    rest : (i : ℕ) → 64 * at % 64 ≤ i → bit_at w i ≡ bit_at (get_or words (64 * at / 64) 0) i
    rest i le = ap (λ (x : ℕ). bit_at x i) (is ∙ ap (λ (j : ℕ). get_or words j 0) (sym same))

    below : (i : ℕ) → i < 64 * at % 64 → bit_at w i ≡ 0
    below i lt = absurd (omega (arith, lt))

    some : 0 < w
    some = elim (cases_lt 0 w) [
      | inl lt ↦ lt
      | inr none ↦ absurd (true≢false (sym one ∙ none_found words n row (64 * at) w below rest (omega (arith, none)) k (omega (arith, within)) (within ∙ sym same)))
    ]

    found : IsNextInWord (bits words n) (64 * at) (Some (64 * at + trailing_zeros w64 w))
    found =
        let fits : w < 2 ^ 64 = omega (arith, is, row.words_fit at) in
        let e : 64 * at / 64 * 64 + trailing_zeros w64 w ≡ 64 * at + trailing_zeros w64 w = omega (arith, same) in
        subst (λ (r : ℕ). IsNextInWord (bits words n) (64 * at) (Some r)) e (first_found words n row (64 * at) w below rest fits some)

pub index-found-requires : goal.index-found-requires
index-found-requires g c =
    let words = c.self.inside.words.items in let n = c.self.inside.len in
    let one = ap (λ (l : List Bool). get_or l c.requires.0 false) c.self.view_is ∙ c.requires.2 in
    omega (arith, there words n c.args.at c.requires.0 0 c.self.invariant c.requires.1 one, c.self.inside.words.ok)

pub overflow_mul-result : goal.overflow_mul-result
overflow_mul-result g c =
    let words = c.self.inside.words.items in let n = c.self.inside.len in
    let one = ap (λ (l : List Bool). get_or l c.requires.0 false) c.self.view_is ∙ c.requires.2 in
    record { fits = omega (arith, held words n c.args.at c.requires.0 0 c.self.invariant c.requires.1 one, c.self.invariant.small) }

pub overflow_add-result : goal.overflow_add-result
overflow_add-result g c =
    let words = c.self.inside.words.items in let n = c.self.inside.len in let w = c.index-found.result.now in
    let one = ap (λ (l : List Bool). get_or l c.requires.0 false) c.self.view_is ∙ c.requires.2 in
    let is : w ≡ get_or words c.args.at 0 = get_or_read words c.args.at w (there words n c.args.at c.requires.0 w c.self.invariant c.requires.1 one) c.index-found.ensures 0 in
    let f = found words n c.args.at c.requires.0 w c.self.invariant c.requires.1 one is in
    record { fits = omega (arith, f.1.1, length-bits words n, c.self.invariant.small) }

pub returns : goal.returns
returns g c =
    let words = c.self.inside.words.items in let n = c.self.inside.len in let w = c.index-found.result.now in
    let one = ap (λ (l : List Bool). get_or l c.requires.0 false) c.self.view_is ∙ c.requires.2 in
    let is : w ≡ get_or words c.args.at 0 = get_or_read words c.args.at w (there words n c.args.at c.requires.0 w c.self.invariant c.requires.1 one) c.index-found.ensures 0 in
    subst (λ (l : List Bool). IsNextInWord l (64 * c.args.at) (Some (64 * c.args.at + trailing_zeros w64 w))) c.self.view_is
    (found words n c.args.at c.requires.0 w c.self.invariant c.requires.1 one is)
