-- Words of which the first tells of the others.
use Rattle.std.proofs.Common.{◌≡◌, ◌≢◌, ℕ, zero, suc, ◌+◌, ◌-◌, ◌/◌, ◌%◌, ◌<◌, ◌≤◌, ◌^◌, Bool, true, false, not, ◌==◌, List, ◌∷◌, length, get_or, set, drop, refl, sym, ap, ◌∙◌, inl, inr, arith}
use Rattle.std.specs.Int.{bit_at, from_bool, trailing_zeros, w64}
use Rattle.std.proofs.lemmas.Nat.Bits.{bit_at-trailing_zeros, bit_at-zero}
use Rattle.std.proofs.lemmas.List.{get_or-drop, get_or-set_same, get_or-set_other, length-set}
use Rattle.std.proofs.lemmas.Bool.{cases_eq, cases_lt, eqb-true, eqb-false}
use Rattle.bz_bits.specs.Row.{bit_of, Tells}

-- a word behind the first of all
pub behind_at : (f : ℕ) (ws : List ℕ) (k : ℕ) → 0 < k → get_or (f ∷ drop 1 ws) k 0 ≡ get_or ws k 0
behind_at f ws zero lt = absurd (omega (arith, lt))
behind_at f ws (suc k) lt = let e : 1 + k ≡ suc k = omega arith in get_or-drop 1 ws k 0 ∙ ap (λ (i : ℕ). get_or ws i 0) e

pub far_bit : (f : ℕ) (ws : List ℕ) (k : ℕ) → 64 ≤ k → bit_of (f ∷ drop 1 ws) k ≡ bit_of ws k
far_bit f ws k far = ap (λ (w : ℕ). bit_at w (k % 64)) (behind_at f ws (k / 64) (omega (arith, far)))

pub near_bit : (f : ℕ) (ws vs : List ℕ) (k : ℕ) → k < 64 → bit_of (f ∷ ws) k ≡ bit_of (f ∷ vs) k
near_bit f ws vs k near =
    let z : k / 64 ≡ 0 = omega (arith, near) in
    ap (λ (i : ℕ). bit_at (get_or (f ∷ ws) i 0) (k % 64)) z ∙ sym (ap (λ (i : ℕ). bit_at (get_or (f ∷ vs) i 0) (k % 64)) z)

-- a bit of a word behind it is written, and the others stay
pub others_far : (f : ℕ) (ws vs : List ℕ) (port : ℕ) → 64 ≤ port → ((k : ℕ) → 64 ≤ k → k ≢ port → bit_of vs k ≡ bit_of ws k)
    → (k : ℕ) → k ≢ port → bit_of (f ∷ drop 1 vs) k ≡ bit_of (f ∷ drop 1 ws) k
others_far f ws vs port far others k ne =
    elim (cases_lt k 64) [
      | inl near ↦ near_bit f (drop 1 vs) (drop 1 ws) k near
      | inr ge ↦ far_bit f vs k ge ∙ others k ge ne ∙ sym (far_bit f ws k ge)
    ]

pub pos_of : (x : ℕ) → x ≢ 0 → 0 < x
pos_of zero some = absurd (some refl)
pos_of (suc x) some = omega arith

-- a bit that tells whether a word has one
pub one_or_none : (w : ℕ) → from_bool (not (w == 0)) ≡ 0 → w ≡ 0
one_or_none w = by (w == 0) refl
  where
    by : (b : Bool) → (w == 0) ≡ b → from_bool (not b) ≡ 0 → w ≡ 0
    by true e z = eqb-true w 0 e
    by false e z = absurd (omega (arith, z))

pub some_one : (w : ℕ) → from_bool (not (w == 0)) ≡ 1 → w ≢ 0
some_one w = by (w == 0) refl
  where
    by : (b : Bool) → (w == 0) ≡ b → from_bool (not b) ≡ 1 → w ≢ 0
    by true e one = absurd (omega (arith, one))
    by false e one = eqb-false w 0 e

-- a word behind the first is put, and what is told of it
module _ (ws : List ℕ) (at w t : ℕ) (behind : 0 < at) (within : at < length ws) where
  pub read_front : get_or (set (set ws at w) 0 t) 0 0 ≡ t
  read_front = get_or-set_same (set ws at w) 0 t 0 (omega (arith, within, length-set ws at w))

  pub read_behind : (k : ℕ) → 0 < k → get_or (set (set ws at w) 0 t) k 0 ≡ get_or (set ws at w) k 0
  read_behind k lt = get_or-set_other (set ws at w) 0 k t 0 (λ e. omega (arith, e, lt))

  pub tells_put : Tells ws → (at ≤ 64 → bit_at t (at - 1) ≡ from_bool (not (w == 0))) → ((i : ℕ) → i < 64 → suc i ≢ at → bit_at t i ≡ bit_at (get_or ws 0 0) i) → Tells (set (set ws at w) 0 t)
  tells_put is here others = record {
    none = λ i lt z. read_behind (suc i) (omega arith) ∙ elim (cases_eq (suc i) at) [
      | inl e ↦ let j : at - 1 ≡ i = omega (arith, e) in
          ap (λ (k : ℕ). get_or (set ws at w) k 0) e ∙ get_or-set_same ws at w 0 within
          ∙ one_or_none w (sym (here (omega (arith, e, lt))) ∙ ap (bit_at t) j ∙ ap (λ (x : ℕ). bit_at x i) (sym read_front) ∙ z)
      | inr ne ↦ get_or-set_other ws at (suc i) w 0 ne ∙ is.none i lt (sym (others i lt ne) ∙ ap (λ (x : ℕ). bit_at x i) (sym read_front) ∙ z)
    ];
    some = λ i lt one z. elim (cases_eq (suc i) at) [
      | inl e ↦ let j : at - 1 ≡ i = omega (arith, e) in
          some_one w (sym (here (omega (arith, e, lt))) ∙ ap (bit_at t) j ∙ ap (λ (x : ℕ). bit_at x i) (sym read_front) ∙ one)
          (sym (ap (λ (k : ℕ). get_or (set ws at w) k 0) e ∙ get_or-set_same ws at w 0 within) ∙ sym (read_behind (suc i) (omega arith)) ∙ z)
      | inr ne ↦ is.some i lt (sym (others i lt ne) ∙ ap (λ (x : ℕ). bit_at x i) (sym read_front) ∙ one)
          (sym (get_or-set_other ws at (suc i) w 0 ne) ∙ sym (read_behind (suc i) (omega arith)) ∙ z)
    ];
  }

-- a search by what is told, of which `left` is that of the words from `at` on
module _ (ws : List ℕ) (at left : ℕ) (is : Tells ws) (behind : 0 < at) (before : (i : ℕ) → suc i < at → bit_at left i ≡ 0)
    (rest : (i : ℕ) → i < 64 → at ≤ suc i → bit_at left i ≡ bit_at (get_or ws 0 0) i) where
  pub none_told : left ≡ 0 → (k : ℕ) → at ≤ k → k < 65 → get_or ws k 0 ≡ 0
  none_told none k le lt =
      let i = k - 1 in let e : suc i ≡ k = omega (arith, behind, le) in
      ap (λ (j : ℕ). get_or ws j 0) (sym e) ∙ is.none i (omega (arith, lt, e)) (sym (rest i (omega (arith, lt, e)) (omega (arith, le, e))) ∙ ap (λ (x : ℕ). bit_at x i) none ∙ bit_at-zero i)

  module _ (some : 0 < left) (fits : left < 2 ^ 64) where
    pub told_first : at ≤ trailing_zeros w64 left + 1
    told_first =
        let t = trailing_zeros w64 left in let f = bit_at-trailing_zeros w64 left some fits in
        elim (cases_lt (suc t) at) [ inl lt ↦ absurd (omega (arith, before t lt, f.1)) | inr ge ↦ omega (arith, ge) ]

    pub told_before : (k : ℕ) → at ≤ k → k < trailing_zeros w64 left + 1 → get_or ws k 0 ≡ 0
    told_before k le lt =
        let f = bit_at-trailing_zeros w64 left some fits in let i = k - 1 in let e : suc i ≡ k = omega (arith, behind, le) in
        let below : i < trailing_zeros w64 left = omega (arith, e, lt) in let near : i < 64 = omega (arith, below, f.0) in
        ap (λ (j : ℕ). get_or ws j 0) (sym e) ∙ is.none i near (sym (rest i near (omega (arith, le, e))) ∙ f.2 i below)

    pub told_there : get_or ws (trailing_zeros w64 left + 1) 0 ≢ 0
    told_there z =
        let t = trailing_zeros w64 left in let f = bit_at-trailing_zeros w64 left some fits in let e : t + 1 ≡ suc t = omega arith in
        is.some t f.0 (sym (rest t f.0 (omega (arith, told_first))) ∙ f.1) (ap (λ (j : ℕ). get_or ws j 0) (sym e) ∙ z)
