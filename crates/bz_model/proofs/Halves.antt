-- A value's set among spans that ascend: at most one holds the value, so their order doesn't matter, and a search by halves finds it.
use Rattle.std.proofs.Common.{◌≡◌, ◌⊎◌, inl, inr, ℕ, zero, suc, ◌+◌, ◌-◌, ◌<◌, ◌≤◌, Bool, true, false, List, [], ◌∷◌, length, refl, ap, sym, ◌∙◌, subst, arith}
use Rattle.std.specs.Prelude.{nat_lt, nat_le, ◌&&◌, slice_index_or, Contains, IsPermutation}
use Rattle.std.specs.List.{IsAllAdjacentAnswer}
use Rattle.std.specs.List.Sorted.{IsNonDecreasingBy, IsPartitionPoint}
use Rattle.std.proofs.Common.{ltb}
use Rattle.std.proofs.lemmas.Bool.{cases_eq, cases_lt, le-leb, lt-leb, ltb-true, ltb-false, leb-true, and_parts, and_right, MatchBool-at_true}
use Rattle.std.proofs.lemmas.List.{get_or_default}
use Rattle.std.proofs.lemmas.List.Sorted.{Contains-permutation, IsPermutation-sym, IsNonDecreasingBy-from_all_adjacent}
use Rattle.bz_model.specs.declared.spans.Span.{Span}
use Rattle.bz_model.specs.Indexes.{Ascends}
use Rattle.bz_model.specs.Specifications.{set_of}

pub ends_rise : (spans : List Span) → Ascends spans → IsNonDecreasingBy (λ (span : Span). span.to) spans
ends_rise spans up = IsNonDecreasingBy-from_all_adjacent (λ (span : Span). span.to) spans (λ k d lt. let a = up k d lt in let b = a.0 in let c = a.1 in omega arith)

behind : (first : Span) (spans : List Span) → Ascends (first ∷ spans) → Ascends spans
behind first spans up k d lt =
    let next : suc k + 1 ≡ suc (k + 1) = omega arith in
    subst (λ j. ((slice_index_or spans k d).to < (slice_index_or (first ∷ spans) j d).from) × ((slice_index_or (first ∷ spans) j d).from ≤ (slice_index_or (first ∷ spans) j d).to)) next (up (suc k) d (omega arith))

-- all that come behind a span lie above it
lies_above : (first : Span) (spans : List Span) → Ascends (first ∷ spans) → (k : ℕ) (d : Span) → k < length spans → first.to < (slice_index_or spans k d).from
lies_above first [] up k d lt = omega arith
lies_above first (next ∷ spans) up zero d lt = (up 0 d (omega arith)).0
lies_above first (next ∷ spans) up (suc k) d lt =
    let here = up 0 d (omega arith) in
    let a = here.0 in
    let b = here.1 in
    let c = lies_above next spans (behind first (next ∷ spans) up) k d (omega arith) in
    omega arith

module _ (none v : ℕ) where
  hit : (first : Span) (spans : List Span) → first.from ≤ v → v ≤ first.to → set_of (first ∷ spans) none v ≡ first.set
  hit first spans from to = rw (le-leb first.from v from, le-leb v first.to to) refl

  below : (first : Span) (spans : List Span) → v < first.from → set_of (first ∷ spans) none v ≡ set_of spans none v
  below first spans low = rw (lt-leb first.from v low) refl

  above : (first : Span) (spans : List Span) → first.to < v → set_of (first ∷ spans) none v ≡ set_of spans none v
  above first spans high = rw (and_right (nat_le first.from v) (nat_le v first.to) (lt-leb v first.to high)) refl

  record Finds (spans : List Span) : Type 0 where
    span : Span
    contains : Contains spans span
    from : span.from ≤ v
    to : v ≤ span.to
    set : set_of spans none v ≡ span.set

  record FindsNone (spans : List Span) : Type 0 where
    set : set_of spans none v ≡ none
    holds : (span : Span) → Contains spans span → span.from ≤ v → v ≤ span.to → ⊥

  not_there : (first : Span) (spans : List Span) → (first.from ≤ v → v ≤ first.to → ⊥) → FindsNone spans → (span : Span) (k : ℕ) → k < length (first ∷ spans) → slice_index_or (first ∷ spans) k span ≡ span → span.from ≤ v → v ≤ span.to → ⊥
  not_there first spans not finds span zero lt at from to = not (subst (λ (s : Span). s.from ≤ v) (sym at) from) (subst (λ (s : Span). v ≤ s.to) (sym at) to)
  not_there first spans not finds span (suc k) lt at from to = finds.holds span (k, omega arith, at) from to

  later : (first : Span) (spans : List Span) → set_of (first ∷ spans) none v ≡ set_of spans none v → (first.from ≤ v → v ≤ first.to → ⊥) → Finds spans ⊎ FindsNone spans → Finds (first ∷ spans) ⊎ FindsNone (first ∷ spans)
  later first spans e not (inl finds) =
      let (k, lt, at) = finds.contains in
      inl (record { span = finds.span; contains = (suc k, omega arith, at); from = finds.from; to = finds.to; set = e ∙ finds.set })
  later first spans e not (inr finds) =
      inr (record { set = e ∙ finds.set; holds = λ span h from to. not_there first spans not finds span h.0 h.1 h.2 from to })

  cases : (spans : List Span) → Finds spans ⊎ FindsNone spans
  cases [] = inr (record { set = refl; holds = λ span h from to. let lt = h.1 in omega arith })
  cases (first ∷ spans) = elim (cases_lt v first.from) [
    | inl low ↦ later first spans (below first spans low) (λ from to. omega arith) (cases spans)
    | inr from ↦ elim (cases_lt first.to v) [
      | inl high ↦ later first spans (above first spans high) (λ from to. omega arith) (cases spans)
      | inr to ↦ inl (record { span = first; contains = (0, omega arith, refl); from = from; to = to; set = hit first spans from to })
    ]
  ]

  -- a span that holds the value is the only one
  sole_at : (spans : List Span) → Ascends spans → (span : Span) (k : ℕ) → k < length spans → slice_index_or spans k span ≡ span → span.from ≤ v → v ≤ span.to → set_of spans none v ≡ span.set
  sole_at [] up span k lt at from to = omega arith
  sole_at (first ∷ spans) up span zero lt at from to =
      hit first spans (subst (λ (s : Span). s.from ≤ v) (sym at) from) (subst (λ (s : Span). v ≤ s.to) (sym at) to) ∙ ap (λ (s : Span). s.set) at
  sole_at (first ∷ spans) up span (suc k) lt at from to =
      let high = subst (λ (s : Span). first.to < s.from) at (lies_above first spans up k span (omega arith)) in
      above first spans (omega arith) ∙ sole_at spans (behind first spans up) span k (omega arith) at from to

  same_of : (spans ascending : List Span) → Ascends ascending → IsPermutation spans ascending → Finds spans ⊎ FindsNone spans → Finds ascending ⊎ FindsNone ascending → set_of ascending none v ≡ set_of spans none v
  same_of spans ascending up moved (inl finds) other =
      let (k, lt, at) = Contains-permutation spans ascending finds.span moved finds.contains in
      sole_at ascending up finds.span k lt at finds.from finds.to ∙ sym finds.set
  same_of spans ascending up moved (inr finds) (inl other) =
      absurd (finds.holds other.span (Contains-permutation ascending spans other.span (IsPermutation-sym spans ascending moved) other.contains) other.from other.to)
  same_of spans ascending up moved (inr finds) (inr other) = other.set ∙ sym finds.set

  pub same : (spans ascending : List Span) → Ascends ascending → IsPermutation spans ascending → set_of ascending none v ≡ set_of spans none v
  same spans ascending up moved = same_of spans ascending up moved (cases spans) (cases ascending)

  -- no span holds a value that lies between two that follow one another
  module _ (spans : List Span) (up : Ascends spans) (i : ℕ) (low : (k : ℕ) (d : Span) → k < i → (slice_index_or spans k d).to < v) (high : (k : ℕ) (d : Span) → i ≤ k → k < length spans → v ≤ (slice_index_or spans k d).to) (next : (d : Span) → i < length spans → v < (slice_index_or spans i d).from) where
    lies_between : (k : ℕ) (d : Span) → k < length spans → (slice_index_or spans k d).from ≤ v → v ≤ (slice_index_or spans k d).to → ⊥
    lies_between k d lt from to = elim (cases_lt k i) [
      | inl before ↦ let a = low k d before in omega arith
      | inr after ↦ elim (cases_eq k i) [
        | inl is ↦
            let a = subst (λ j. v < (slice_index_or spans j d).from) (sym is) (next d (omega arith)) in
            omega arith
        | inr other ↦
            let one : k - 1 + 1 ≡ k = omega arith in
            let a = (up (k - 1) d (omega arith)).0 in
            let b = subst (λ j. (slice_index_or spans (k - 1) d).to < (slice_index_or spans j d).from) one a in
            let c = high (k - 1) d (omega arith) (omega arith) in
            omega arith
      ]
    ]

    none_of : Finds spans ⊎ FindsNone spans → set_of spans none v ≡ none
    none_of (inl finds) =
        let (k, lt, at) = finds.contains in
        let s = finds.span in
        absurd (lies_between k s lt (subst (λ (x : Span). x.from ≤ v) (sym at) finds.from) (subst (λ (x : Span). v ≤ x.to) (sym at) finds.to))
    none_of (inr finds) = finds.set

    between : set_of spans none v ≡ none
    between = none_of (cases spans)

  -- the spans up to one end below the value, and the others don't
  module _ (spans : List Span) (up : Ascends spans) (i : ℕ) (point : IsPartitionPoint (λ (y : Span). ltb y.to v ≡ true) (λ (y : Span). ltb y.to v ≡ false) spans i) where
    low : (k : ℕ) (d : Span) → k < i → (slice_index_or spans k d).to < v
    low k d lt = ltb-true _ v (point.0 k d (omega arith) lt)

    high : (k : ℕ) (d : Span) → i ≤ k → k < length spans → v ≤ (slice_index_or spans k d).to
    high k d le lt = ltb-false _ v (point.1 k d le lt)

    pub found : (span : Span) → i < length spans → span ≡ slice_index_or spans i span → span.from ≤ v → span.set ≡ set_of spans none v
    found span lt at from =
        let to = subst (λ (s : Span). v ≤ s.to) (sym at) (high i span (omega arith) lt) in
        sym (sole_at spans up span i lt (sym at) from to)

    pub missed : (span : Span) → span ≡ slice_index_or spans i span → v < span.from → none ≡ set_of spans none v
    missed span at above = sym (between spans up i low high (λ d lt. subst (λ (s : Span). v < s.from) (at ∙ get_or_default spans i span d lt) above))

    pub past : length spans ≤ i → none ≡ set_of spans none v
    past le = sym (between spans up i low high (λ d lt. omega arith))

-- what the test of each span and the next says
pub ascends_by : (spans : List Span) (b : Bool) → IsAllAdjacentAnswer (λ (span next : Span) (r : Bool). r ≡ (nat_lt span.to next.from && nat_le next.from next.to)) spans b → b ≡ true → Ascends spans
ascends_by spans b all holds k d lt =
    let each = MatchBool-at_true _ _ holds all in
    let both = and_parts (nat_lt (slice_index_or spans k d).to (slice_index_or spans (k + 1) d).from) (nat_le (slice_index_or spans (k + 1) d).from (slice_index_or spans (k + 1) d).to) (sym (each k d lt)) in
    (ltb-true _ _ both.0, leb-true _ _ both.1)
