-- A search that skips words, by a row that tells which words have a 1.
use Rattle.std.proofs.Common.{◌≡◌, ◌≢◌, ℕ, suc, ◌+◌, ◌*◌, ◌/◌, ◌^◌, ◌<◌, ◌≤◌, Bool, true, false, List, length, get_or, set, replicate, Option, Some, None, refl, sym, ap, ◌∙◌, subst, arith, inl, inr}
use Rattle.std.proofs.lemmas.Bool.{cases_eq, cases_lt, true≢false}
use Rattle.std.proofs.lemmas.List.{length-set, length-replicate, get_or-replicate, get_or-set_same, get_or-set_other, get_or_past, set-get_or}
use Rattle.std.specs.Bool.{beq}
use Rattle.bz_bits.specs.Row.{IsNext, IsNextAfter, IsNextInWord, HasOne, Sums}

-- a search word by word: none of the words before `at` has a 1 from `from` on
pub found_later : (xs : List Bool) (from at k : ℕ) → from ≤ 64 * at → ((j : ℕ) → from ≤ j → j < 64 * at → get_or xs j false ≡ false) → IsNextInWord xs (64 * at) (Some k) → IsNext xs from (Some k)
found_later xs from at k le before found = (
  omega (arith, found.1.0, le),
  found.1.1,
  found.1.2,
  λ j from_le lt. elim (cases_lt j (64 * at)) [ inl low ↦ before j from_le low | inr high ↦ found.1.3 j high lt ],
)

-- the row beyond its end
pub nothing_past : (xs : List Bool) (j : ℕ) → length xs ≤ j → get_or xs j false ≡ false
nothing_past xs j le = get_or_past xs j false le

pub one_within : (xs : List Bool) (j : ℕ) → get_or xs j false ≡ true → j < length xs
one_within xs j one_here = elim (cases_lt j (length xs)) [ inl lt ↦ lt | inr ge ↦ absurd (true≢false (sym one_here ∙ get_or_past xs j false ge)) ]

-- none from a place on in its word `at`, and what comes next behind that word
module _ (xs : List Bool) (from at : ℕ) (high : 64 * at ≤ from) (low : from ≤ 64 * (at + 1)) (none : (k : ℕ) → from ≤ k → k / 64 ≡ at → get_or xs k false ≡ false) where
  before : (j : ℕ) → from ≤ j → j < 64 * (at + 1) → get_or xs j false ≡ false
  before j le lt = none j le (omega (arith, high, le, lt))

  pub joined : (r : Option ℕ) → IsNext xs (64 * (at + 1)) r → IsNext xs from r
  joined None next = λ j le. elim (cases_lt j (64 * (at + 1))) [ inl lt ↦ before j le lt | inr ge ↦ next j ge ]
  joined (Some k) next = (
    omega (arith, next.0, low),
    next.1,
    next.2,
    λ j le lt. elim (cases_lt j (64 * (at + 1))) [ inl near ↦ before j le near | inr far ↦ next.3 j far lt ],
  )

module _ (xs ys : List Bool) (s : Sums xs ys) where
  -- a word that is told to have a 1
  pub told_one : (w : ℕ) → get_or ys w false ≡ true → HasOne xs w true
  told_one w one_here = subst (HasOne xs w) one_here (s.told w)

  pub told_none : (w : ℕ) → get_or ys w false ≡ false → HasOne xs w false
  told_none w none_here = subst (HasOne xs w) none_here (s.told w)

  pub word_fits : (w : ℕ) → get_or ys w false ≡ true → 64 * w < 2 ^ 64
  word_fits w one_here = let one = told_one w one_here in omega (arith, one.1, one_within xs one.0 one.2, s.small)

  -- a search of the words behind `at`
  module _ (at : ℕ) where
    pub behind_none : IsNext ys (at + 1) None → IsNext xs (64 * (at + 1)) None
    behind_none none j le = told_none (j / 64) (none (j / 64) (omega (arith, le))) j (let same : j / 64 ≡ j / 64 = omega arith in same)

    behind_some : (w k : ℕ) → IsNext ys (at + 1) (Some w) → IsNextInWord xs (64 * w) (Some k) → IsNext xs (64 * (at + 1)) (Some k)
    behind_some w k next found =
        found_later xs (64 * (at + 1)) w k (omega (arith, next.0))
        (λ j le lt. told_none (j / 64) (next.3 (j / 64) (omega (arith, le)) (omega (arith, lt))) j (let same : j / 64 ≡ j / 64 = omega arith in same))
        found

  -- such a word has one
  not_none : (w : ℕ) → get_or ys w false ≡ true → IsNextInWord xs (64 * w) None → ⊥
  not_none w one_here none = let one = told_one w one_here in true≢false (sym one.2 ∙ none one.0 (omega (arith, one.1)) (omega (arith, one.1)))

  pub behind : (at w : ℕ) → IsNext ys (at + 1) (Some w) → (r : Option ℕ) → IsNextInWord xs (64 * w) r → IsNext xs (64 * (at + 1)) r
  behind at w next None none = absurd (not_none w next.2 none)
  behind at w next (Some k) found = behind_some at w k next found

  pub through : (from w : ℕ) → IsNextInWord xs from None → IsNext ys (from / 64 + 1) (Some w) → (r : Option ℕ) → IsNextInWord xs (64 * w) r → IsNext xs from r
  through from w here next r found = joined xs from (from / 64) (omega arith) (omega arith) here r (behind (from / 64) w next r found)

  pub through_none : (from : ℕ) → IsNextInWord xs from None → IsNext ys (from / 64 + 1) None → IsNext xs from None
  through_none from here none = joined xs from (from / 64) (omega arith) (omega arith) here None (behind_none (from / 64) none)

  module _ (k : ℕ) (b v : Bool) (lt : k < length xs) (now : HasOne (set xs k b) (k / 64) v) where
    kept : (i : ℕ) → i ≢ k / 64 → (c : Bool) → HasOne xs i c → HasOne (set xs k b) i c
    kept i ne true one = (one.0, one.1, get_or-set_other xs k one.0 b false (λ e. ne (omega (arith, one.1, e))) ∙ one.2)
    kept i ne false none = λ j at. get_or-set_other xs k j b false (λ e. ne (omega (arith, at, e))) ∙ none j at

    told_after : (i : ℕ) → HasOne (set xs k b) i (get_or (set ys (k / 64) v) i false)
    told_after i =
        elim (cases_eq i (k / 64)) [
          | inl e ↦ subst (λ (m : ℕ). HasOne (set xs k b) m (get_or (set ys (k / 64) v) m false)) (sym e)
              (subst (HasOne (set xs k b) (k / 64)) (sym (get_or-set_same ys (k / 64) v false (omega (arith, lt, s.room)))) now)
          | inr ne ↦ subst (HasOne (set xs k b) i) (sym (get_or-set_other ys (k / 64) i v false ne)) (kept i ne (get_or ys i false) (s.told i))
        ]

    -- a bit is written, and then what the row above tells of its word
    pub sums_set : Sums (set xs k b) (set ys (k / 64) v)
    sums_set = record { room = omega (arith, length-set xs k b, length-set ys (k / 64) v, s.room); small = omega (arith, length-set xs k b, s.small); told = told_after }

pub same_bit : (a b : Bool) → beq a b ≡ true → a ≡ b
same_bit true true e = refl
same_bit true false e = absurd (cc)
same_bit false true e = absurd (cc)
same_bit false false e = refl

-- a bit is written, and the row above tells of its word what it told
pub sums_kept : (xs ys : List Bool) → Sums xs ys → (k : ℕ) (b v : Bool) → k < length xs → HasOne (set xs k b) (k / 64) v → get_or ys (k / 64) false ≡ v → Sums (set xs k b) ys
sums_kept xs ys s k b v lt now told =
    subst (λ (l : List Bool). Sums (set xs k b) l) (sym (ap (set ys (k / 64)) told) ∙ set-get_or ys (k / 64) false) (sums_set xs ys s k b v lt now)

pub sums_none : (n m : ℕ) → n ≤ 64 * m → n < 2 ^ 64 → Sums (replicate n false) (replicate m false)
sums_none n m room small = record {
  room = omega (arith, length-replicate n false, length-replicate m false);
  small = omega (arith, length-replicate n false);
  told = λ i. subst (HasOne (replicate n false) i) (sym (get_or_none m i)) (λ j at. get_or_none n j);
} where
  get_or_none : (n i : ℕ) → get_or (replicate n false) i false ≡ false
  get_or_none n i = elim (cases_lt i n) [ inl lt ↦ get_or-replicate n i false false lt | inr ge ↦ get_or_past (replicate n false) i false (omega (arith, length-replicate n false)) ]

-- the word of a bit that was raised has a 1
pub raised_one : (xs : List Bool) (k : ℕ) → k < length xs → HasOne (set xs k true) (k / 64) true
raised_one xs k lt = (k, refl, get_or-set_same xs k true false lt)

-- where a word still has a 1 after a bit was lowered, the row above told of one
pub lowered_told : (xs ys : List Bool) → Sums xs ys → (k at : ℕ) → k < length xs → HasOne (set xs k false) at true → get_or ys at false ≡ true
lowered_told xs ys s k at lt (j, e, is) = by_told (get_or ys at false) (s.told at)
  where
    apart : j ≢ k
    apart same = true≢false (sym is ∙ ap (λ (i : ℕ). get_or (set xs k false) i false) same ∙ get_or-set_same xs k false false lt)

    was : get_or xs j false ≡ true
    was = sym (get_or-set_other xs k j false false apart) ∙ is

    by_told : (b : Bool) → HasOne xs at b → b ≡ true
    by_told true has = refl
    by_told false has = absurd (true≢false (sym was ∙ has j e))

-- in a row of one word none in the word is none at all
near_none : (xs : List Bool) (from : ℕ) → length xs ≤ 64 → IsNextInWord xs from None → IsNext xs from None
near_none xs from few near j le = elim (cases_lt j 64) [ inl lt ↦ near j le (omega (arith, lt, le)) | inr ge ↦ nothing_past xs j (omega (arith, few, ge)) ]

-- so it is from a place on
pub few_after : (xs : List Bool) (place : ℕ) (r : Option ℕ) → length xs ≤ 64 → place < length xs → IsNextAfter xs place r → IsNext xs (suc place) r
few_after xs place None few within near = λ j le.
    elim (cases_lt j 64) [ inl lt ↦ near j le (omega (arith, lt, few, within)) | inr ge ↦ nothing_past xs j (omega (arith, few, ge)) ]
few_after xs place (Some k) few within near = near.1

pub near_all : (xs : List Bool) (from : ℕ) (r : Option ℕ) → length xs ≤ 64 → IsNextInWord xs from r → IsNext xs from r
near_all xs from None few near = near_none xs from few near
near_all xs from (Some k) few near = near.1
