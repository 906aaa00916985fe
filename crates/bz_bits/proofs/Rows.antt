-- The bits of a row of words, and what one write to a word leaves of them.
use Rattle.std.proofs.Common.{◌≡◌, ◌≢◌, ℕ, zero, suc, refl, nat_eq, not, ◌+◌, ◌-◌, ◌*◌, ◌/◌, ◌%◌, ◌^◌, ◌<◌, ◌≤◌, Bool, true, false, ◌==◌, List, length, get_or, set, replicate, Some, None, sym, ap, ◌∙◌, subst, inl, inr, arith, lit<, add-zero}
use Rattle.std.proofs.lemmas.List.{ext_get_or, length-set, length-replicate, get_or-replicate, get_or-set_same, get_or-set_other, get_or_past}
use Rattle.std.proofs.lemmas.List.FromFn.{length-map-range_with_len, get_or-map-range_with_len}
use Rattle.std.proofs.lemmas.Bool.{cases_eq, cases_lt}
use Rattle.std.proofs.lemmas.Nat.Bits.{bit_at-zero, bit_at-trailing_zeros, bit_at_cat_low, bit_at_cat_high, and_high_mask, ones_shl, bit_at_set_same, bit_at_set_other, bit_at_clear_same, bit_at_clear_other}
use Rattle.std.specs.Int.{bit_at, bit_not, trailing_zeros, w64}
use Rattle.std.proofs.lemmas.List.{get_or_read}
use Rattle.std.proofs.Math.Pow.{pow_mono}
use Rattle.std.proofs.lemmas.Nat.{or_lt, mod_below, pow_pos, and_le_l, shr_split}
use Rattle.std.specs.Prelude.{bit_or, bit_and}
use Rattle.bz_bits.specs.Row.{bit_of, bits, IsRow, IsNext, IsNextAfter, IsNextInWord, HasOne}

pub length-bits : (words : List ℕ) (n : ℕ) → length (bits words n) ≡ n
unfolding bits
length-bits words n = length-map-range_with_len (λ k. bit_of words k == 1) 0 n

pub get_or-bits : (words : List ℕ) (n k : ℕ) (d : Bool) → k < n → get_or (bits words n) k d ≡ (bit_of words k == 1)
unfolding bits
get_or-bits words n k d lt = get_or-map-range_with_len (λ k. bit_of words k == 1) 0 n k k d lt (omega arith)

module _ (words : List ℕ) (n : ℕ) (row : IsRow words n) where
  pub word_in : (k : ℕ) → k < n → k / 64 < length words
  word_in k lt = omega (arith, row.room)

  module _ (k v : ℕ) (b : Bool) (lt : k < n) (same : (bit_at v (k % 64) == 1) ≡ b) (rest : (i : ℕ) → i < 64 → i ≢ k % 64 → bit_at v i ≡ bit_at (get_or words (k / 64) 0) i) where
    at_place : bit_of (set words (k / 64) v) k ≡ bit_at v (k % 64)
    at_place = ap (λ (w : ℕ). bit_at w (k % 64)) (get_or-set_same words (k / 64) v 0 (word_in k lt))

    elsewhere : (j : ℕ) → j ≢ k → bit_of (set words (k / 64) v) j ≡ bit_of words j
    elsewhere j ne =
        elim (cases_eq (j / 64) (k / 64)) [
          | inl e ↦ ap (λ (i : ℕ). bit_at (get_or (set words (k / 64) v) i 0) (j % 64)) e
              ∙ ap (λ (w : ℕ). bit_at w (j % 64)) (get_or-set_same words (k / 64) v 0 (word_in k lt))
              ∙ rest (j % 64) (omega arith) (λ f. ne (omega (arith, e, f)))
              ∙ ap (λ (i : ℕ). bit_at (get_or words i 0) (j % 64)) (sym e)
          | inr f ↦ ap (λ (w : ℕ). bit_at w (j % 64)) (get_or-set_other words (k / 64) (j / 64) v 0 f)
        ]

    pub row_written : v < 2 ^ 64 → IsRow (set words (k / 64) v) n
    row_written small = record {
      room = omega (arith, row.room, length-set words (k / 64) v);
      small = row.small;
      tight = omega (arith, row.tight, length-set words (k / 64) v);
      clear = λ j past. elsewhere j (omega arith) ∙ row.clear j past;
      words_fit = λ i. elim (cases_eq i (k / 64)) [
        | inl e ↦ subst (λ (w : ℕ). w < 2 ^ 64) (sym (ap (λ (m : ℕ). get_or (set words (k / 64) v) m 0) e ∙ get_or-set_same words (k / 64) v 0 (word_in k lt))) small
        | inr f ↦ subst (λ (w : ℕ). w < 2 ^ 64) (sym (get_or-set_other words (k / 64) i v 0 f)) (row.words_fit i)
      ];
    }

    pub bits_written : bits (set words (k / 64) v) n ≡ set (bits words n) k b
    bits_written =
        let new = bits (set words (k / 64) v) n in let old = bits words n in
        ext_get_or false new (set old k b) (length-bits (set words (k / 64) v) n ∙ sym (length-set old k b ∙ length-bits words n)) (λ j within.
        let below : j < n = omega (arith, length-bits (set words (k / 64) v) n) in
        elim (cases_eq j k) [
          | inl e ↦ get_or-bits (set words (k / 64) v) n j false below
              ∙ ap (λ (m : ℕ). bit_of (set words (k / 64) v) m == 1) e ∙ ap (λ (m : ℕ). m == 1) at_place ∙ same
              ∙ sym (ap (λ (m : ℕ). get_or (set old k b) m false) e ∙ get_or-set_same old k b false (omega (arith, length-bits words n)))
          | inr f ↦ get_or-bits (set words (k / 64) v) n j false below
              ∙ ap (λ (m : ℕ). m == 1) (elsewhere j f) ∙ sym (get_or-set_other old k j b false f ∙ get_or-bits words n j false below)
        ])

  is_zero : (x : ℕ) → x ≡ 0 → (x == 1) ≡ false
  is_zero x e = ap (λ (m : ℕ). m == 1) e

  pub next_some : (from k : ℕ) → from ≤ k → bit_of words k ≡ 1 → ((j : ℕ) → from ≤ j → j < k → bit_of words j ≡ 0) → IsNext (bits words n) from (Some k)
  next_some from k le one before =
      let below : k < n = elim (cases_lt k n) [ inl lt ↦ lt | inr ge ↦ absurd (omega (arith, row.clear k ge, one)) ] in (
        le,
        omega (arith, length-bits words n),
        get_or-bits words n k false below ∙ ap (λ (m : ℕ). m == 1) one,
        λ j from_le lt. get_or-bits words n j false (omega arith) ∙ is_zero _ (before j from_le lt),
      )

  bit_false : (j : ℕ) → bit_of words j ≡ 0 → get_or (bits words n) j false ≡ false
  bit_false j e =
      elim (cases_lt j n) [
        | inl lt ↦ get_or-bits words n j false lt ∙ is_zero _ e
        | inr ge ↦ get_or_past (bits words n) j false (omega (arith, length-bits words n))
      ]

  -- `found` has the 1s of the word of `from` that stand at that place or above
  module _ (from found : ℕ) (below : (i : ℕ) → i < from % 64 → bit_at found i ≡ 0) (rest : (i : ℕ) → from % 64 ≤ i → bit_at found i ≡ bit_at (get_or words (from / 64) 0) i) where
    marked : (j : ℕ) → from ≤ j → j / 64 ≡ from / 64 → bit_of words j ≡ bit_at found (j % 64)
    marked j le at = ap (λ (i : ℕ). bit_at (get_or words i 0) (j % 64)) at ∙ sym (rest (j % 64) (omega (arith, at)))

    pub none_found : found ≡ 0 → IsNextInWord (bits words n) from None
    none_found none j le at = bit_false j (marked j le at ∙ ap (λ (x : ℕ). bit_at x (j % 64)) none ∙ bit_at-zero (j % 64))

    pub first_found : found < 2 ^ 64 → 0 < found → IsNextInWord (bits words n) from (Some (from / 64 * 64 + trailing_zeros w64 found))
    first_found fits pos =
        let t = trailing_zeros w64 found in let f = bit_at-trailing_zeros w64 found pos fits in let tl : t < 64 = f.0 in
        let high : from % 64 ≤ t = elim (cases_lt t (from % 64)) [ inl lt ↦ absurd (omega (arith, below t lt, f.1)) | inr ge ↦ ge ] in
        let k = from / 64 * 64 + t in
        let at : k / 64 ≡ from / 64 = omega arith in let in' : k % 64 ≡ t = omega arith in let le : from ≤ k = omega (arith, high) in (
          at,
          next_some from k le
              (marked k le at ∙ ap (bit_at found) in' ∙ f.1)
              (λ j from_le lt.
              let jat : j / 64 ≡ from / 64 = omega arith in
              marked j from_le jat ∙ f.2 (j % 64) (omega (arith, jat))),
        )

  -- `found` has the 1s of the word of `place` that stand above it
  module _ (place found : ℕ) (below : (i : ℕ) → i ≤ place % 64 → bit_at found i ≡ 0) (rest : (i : ℕ) → place % 64 < i → bit_at found i ≡ bit_at (get_or words (place / 64) 0) i) where
    marked_above : (j : ℕ) → place < j → j / 64 ≡ place / 64 → bit_of words j ≡ bit_at found (j % 64)
    marked_above j lt at = ap (λ (m : ℕ). bit_at (get_or words m 0) (j % 64)) at ∙ sym (rest (j % 64) (omega (arith, lt, at)))

    pub none_above : found ≡ 0 → IsNextAfter (bits words n) place None
    none_above none j lt at = bit_false j (marked_above j lt at ∙ ap (λ (x : ℕ). bit_at x (j % 64)) none ∙ bit_at-zero (j % 64))

    pub first_above : found < 2 ^ 64 → 0 < found → IsNextAfter (bits words n) place (Some (place / 64 * 64 + trailing_zeros w64 found))
    first_above fits pos =
        let t = trailing_zeros w64 found in let f = bit_at-trailing_zeros w64 found pos fits in let tl : t < 64 = f.0 in
        let high : place % 64 < t = elim (cases_lt (place % 64) t) [ inl lt ↦ lt | inr ge ↦ absurd (omega (arith, below t ge, f.1)) ] in
        let k = place / 64 * 64 + t in
        let at : k / 64 ≡ place / 64 = omega arith in let in' : k % 64 ≡ t = omega arith in (
          at,
          next_some (suc place) k (omega (arith, high))
              (marked_above k (omega (arith, high)) at ∙ ap (bit_at found) in' ∙ f.1)
              (λ j from_le lt.
              let jat : j / 64 ≡ place / 64 = omega arith in
              marked_above j (omega (arith, from_le)) jat ∙ f.2 (j % 64) (omega (arith, jat))),
        )

  -- `word |= 1 << place % 64`
  pub raised : (k : ℕ) → k < n → (w : ℕ) → w ≡ get_or words (k / 64) w
      → IsRow (set words (k / 64) (bit_or w (1 * 2 ^ (k % 64) % 2 ^ 64))) n × (bits (set words (k / 64) (bit_or w (1 * 2 ^ (k % 64) % 2 ^ 64))) n ≡ set (bits words n) k true)
  raised k lt w read =
      let m = k % 64 in let inside : m < 64 = omega arith in
      let is : w ≡ get_or words (k / 64) 0 = get_or_read words (k / 64) w (word_in k lt) read 0 in
      let v = bit_or w (1 * 2 ^ m % 2 ^ 64) in
      let same : (bit_at v m == 1) ≡ true = ap (λ (x : ℕ). x == 1) (bit_at_set_same w64 w m inside) in
      let rest = λ (i : ℕ) (il : i < 64) (ne : i ≢ m). bit_at_set_other w64 w m inside i ne ∙ ap (λ (x : ℕ). bit_at x i) is in
      let fits : w < 2 ^ 64 = subst (λ (x : ℕ). x < 2 ^ 64) (sym is) (row.words_fit (k / 64)) in
      let small : v < 2 ^ 64 = or_lt 64 w (1 * 2 ^ m % 2 ^ 64) fits (mod_below (1 * 2 ^ m) (2 ^ 64) (lit< tt)) in
      (row_written k v true lt same rest small, bits_written k v true lt same rest)

  -- `word &= !(1 << place % 64)`
  pub lowered : (k : ℕ) → k < n → (w : ℕ) → w ≡ get_or words (k / 64) w
      → IsRow (set words (k / 64) (bit_and w (bit_not w64 (1 * 2 ^ (k % 64) % 2 ^ 64)))) n × (bits (set words (k / 64) (bit_and w (bit_not w64 (1 * 2 ^ (k % 64) % 2 ^ 64)))) n ≡ set (bits words n) k false)
  lowered k lt w read =
      let m = k % 64 in let inside : m < 64 = omega arith in
      let is : w ≡ get_or words (k / 64) 0 = get_or_read words (k / 64) w (word_in k lt) read 0 in
      let v = bit_and w (bit_not w64 (1 * 2 ^ m % 2 ^ 64)) in
      let same : (bit_at v m == 1) ≡ false = ap (λ (x : ℕ). x == 1) (bit_at_clear_same w64 w m inside) in
      let rest = λ (i : ℕ) (il : i < 64) (ne : i ≢ m). bit_at_clear_other w64 w m inside i il ne ∙ ap (λ (x : ℕ). bit_at x i) is in
      let fits : w < 2 ^ 64 = subst (λ (x : ℕ). x < 2 ^ 64) (sym is) (row.words_fit (k / 64)) in
      let small : v < 2 ^ 64 = omega (arith, and_le_l w (bit_not w64 (1 * 2 ^ m % 2 ^ 64)), fits) in
      (row_written k v false lt same rest small, bits_written k v false lt same rest)

-- no word has a 1
pub bits_none : (n m : ℕ) → bits (replicate m 0) n ≡ replicate n false
bits_none n m =
    let ws = replicate m 0 in
    ext_get_or false (bits ws n) (replicate n false) (length-bits ws n ∙ sym (length-replicate n false)) (λ j within.
    let below : j < n = omega (arith, length-bits ws n) in
    let none : get_or ws (j / 64) 0 ≡ 0 = elim (cases_lt (j / 64) m) [
      | inl lt ↦ get_or-replicate m (j / 64) 0 0 lt
      | inr ge ↦ let zero_of : ℕ = 0 in get_or_past ws (j / 64) 0 (omega (arith, length-replicate m zero_of))
    ] in
    get_or-bits ws n j false below ∙ ap (λ (w : ℕ). bit_at w (j % 64) == 1) none ∙ ap (λ (x : ℕ). x == 1) (bit_at-zero (j % 64)) ∙ sym (get_or-replicate n j false false below))

-- `word & (MAX << place)`
module _ (w k : ℕ) (within : k < 64) (fits : w < 2 ^ 64) where
  pub above_is : bit_and w ((2 ^ 64 - 1) * 2 ^ k % 2 ^ 64) ≡ w / 2 ^ k * 2 ^ k
  above_is = ap (bit_and w) (ones_shl 64 k (omega arith)) ∙ and_high_mask 64 k (omega arith) w fits

  pub above_below : (i : ℕ) → i < k → bit_at (bit_and w ((2 ^ 64 - 1) * 2 ^ k % 2 ^ 64)) i ≡ 0
  above_below i lt = ap (λ (x : ℕ). bit_at x i) (above_is ∙ sym (add-zero (w / 2 ^ k * 2 ^ k))) ∙ bit_at_cat_low (w / 2 ^ k) k 0 i lt ∙ bit_at-zero i

  pub above_rest : (i : ℕ) → k ≤ i → bit_at (bit_and w ((2 ^ 64 - 1) * 2 ^ k % 2 ^ 64)) i ≡ bit_at w i
  above_rest i le =
      ap (λ (x : ℕ). bit_at x i) (above_is ∙ sym (add-zero (w / 2 ^ k * 2 ^ k))) ∙ bit_at_cat_high (w / 2 ^ k) k 0 i (pow_pos k) le
      ∙ sym (bit_at_cat_high (w / 2 ^ k) k (w % 2 ^ k) i (mod_below w (2 ^ k) (pow_pos k)) le) ∙ ap (λ (x : ℕ). bit_at x i) (shr_split w k)

-- `word & (MAX << k << 1)`
module _ (w k : ℕ) (lt : k < 64) (fits : w < 2 ^ 64) where
  mask_is : (2 ^ 64 - 1) * 2 ^ k % 2 ^ 64 * 2 ^ 1 % 2 ^ 64 ≡ 2 ^ 64 - 2 ^ suc k
  mask_is =
      let x = 2 ^ k in let some : 0 < x = pow_pos k in let to : k ≤ 63 = omega (arith, lt) in let most : x ≤ 2 ^ 63 = pow_mono to in
      ap (λ (m : ℕ). m * 2 ^ 1 % 2 ^ 64) (ones_shl 64 k (omega (arith, lt))) ∙ omega (arith, some, most)

  past_is : bit_and w ((2 ^ 64 - 1) * 2 ^ k % 2 ^ 64 * 2 ^ 1 % 2 ^ 64) ≡ w / 2 ^ suc k * 2 ^ suc k
  past_is = ap (bit_and w) mask_is ∙ and_high_mask 64 (suc k) (omega (arith, lt)) w fits

  pub past_below : (i : ℕ) → i ≤ k → bit_at (bit_and w ((2 ^ 64 - 1) * 2 ^ k % 2 ^ 64 * 2 ^ 1 % 2 ^ 64)) i ≡ 0
  past_below i le = ap (λ (x : ℕ). bit_at x i) (past_is ∙ sym (add-zero (w / 2 ^ suc k * 2 ^ suc k))) ∙ bit_at_cat_low (w / 2 ^ suc k) (suc k) 0 i (omega (arith, le)) ∙ bit_at-zero i

  pub past_rest : (i : ℕ) → k < i → bit_at (bit_and w ((2 ^ 64 - 1) * 2 ^ k % 2 ^ 64 * 2 ^ 1 % 2 ^ 64)) i ≡ bit_at w i
  past_rest i lt =
      ap (λ (x : ℕ). bit_at x i) (past_is ∙ sym (add-zero (w / 2 ^ suc k * 2 ^ suc k))) ∙ bit_at_cat_high (w / 2 ^ suc k) (suc k) 0 i (pow_pos (suc k)) (omega (arith, lt))
      ∙ sym (bit_at_cat_high (w / 2 ^ suc k) (suc k) (w % 2 ^ suc k) i (mod_below w (2 ^ suc k) (pow_pos (suc k))) (omega (arith, lt))) ∙ ap (λ (x : ℕ). bit_at x i) (shr_split w (suc k))

-- a word that isn't 0 has a 1
pub has_one : (words : List ℕ) (n at w : ℕ) → IsRow words n → w ≡ get_or words at 0 → HasOne (bits words n) at (not (nat_eq w 0))
has_one words n at zero row is =
    let back : 64 * at / 64 ≡ at = omega arith in
    λ k e. none_found words n row (64 * at) zero (λ i lt. absurd (omega (arith, lt))) (λ i le. ap (λ (x : ℕ). bit_at x i) (is ∙ ap (λ (m : ℕ). get_or words m 0) (sym back))) refl k
    (omega (arith, e)) (e ∙ sym back)
has_one words n at (suc w) row is =
    let back : 64 * at / 64 ≡ at = omega arith in
    let fits : suc w < 2 ^ 64 = subst (λ (x : ℕ). x < 2 ^ 64) (sym is) (row.words_fit at) in
    let found = first_found words n row (64 * at) (suc w) (λ i lt. absurd (omega (arith, lt))) (λ i le. ap (λ (x : ℕ). bit_at x i) (is ∙ ap (λ (m : ℕ). get_or words m 0) (sym back))) fits (omega arith) in
    let yes : true ≡ not (nat_eq (suc w) 0) = grind (arith) in
    subst (λ (b : Bool). HasOne (bits words n) at b) yes (64 * at / 64 * 64 + trailing_zeros w64 (suc w), found.0 ∙ back, found.1.2)
