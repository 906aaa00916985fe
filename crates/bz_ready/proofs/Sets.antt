-- What an insert and a remove leave of a set, and its members by place.
use Rattle.std.proofs.Common.{◌≡◌, ◌≢◌, ℕ, ◌+◌, ◌-◌, ◌<◌, ◌≤◌, ◌^◌, Bool, true, false, List, length, get_or, set, take, replicate, refl, sym, ap, ◌∙◌, arith, inl, inr}
use Rattle.std.proofs.lemmas.Bool.{cases_eq, cases_lt, true≢false}
use Rattle.std.proofs.lemmas.List.{length-set, length-replicate, length-take-le, get_or-take, get_or-replicate, get_or-set_same, get_or-set_other, get_or_past, get_or_default}
use Rattle.std.proofs.lemmas.List.Edits.{Swapped, swapped_from_swap, length-swap}
use Rattle.std.specs.List.{swap}
use Rattle.bz_ready.specs.Order.{IsEach}
use Rattle.bz_ready.specs.Set.{IsSet, IsListing}

module _ (o : List ℕ) (len : ℕ) (row : List Bool) (is : IsSet o len row) (k place : ℕ) (kl : k < length row) (pl : place < length o) (at : get_or o place 0 ≡ k) where
  -- another place has another number
  apart : (i : ℕ) → i < length o → i ≢ place → get_or o i 0 ≢ k
  apart i lt ne e = ne (is.each.once i place lt pl (e ∙ sym at))

  module _ (b : Bool) where
    kept : (m : ℕ) → m ≢ k → get_or (set row k b) m false ≡ get_or row m false
    kept m ne = get_or-set_other row k m b false ne

    changed : get_or (set row k b) k false ≡ b
    changed = get_or-set_same row k b false kl

  module _ (absent : get_or row k false ≡ false) where
    past : len ≤ place
    past = elim (cases_lt place len) [ inl lt ↦ absurd (true≢false (sym (is.inside place lt) ∙ ap (λ (m : ℕ). get_or row m false) at ∙ absent)) | inr ge ↦ ge ]

    pub inserted : IsEach (swap o place len) → IsSet (swap o place len) (len + 1) (set row k true)
    inserted each =
        let s : Swapped (λ (i : ℕ). get_or o i 0) (λ (i : ℕ). get_or (swap o place len) i 0) place len = swapped_from_swap o (swap o place len) place len 0 pl (omega (arith, past)) refl in
        let long = length-swap o place len in let new = set row k true in let Now : ℕ → Bool = λ (m : ℕ). get_or new m false in
        record {
          size = length-set row k true ∙ is.size ∙ sym long;
          small = omega (arith, long, is.small);
          fits = omega (arith, long, past);
          each = each;
          inside = λ i lt. elim (cases_eq i len) [
            | inl e ↦ ap (λ (j : ℕ). Now (get_or (swap o place len) j 0)) e ∙ ap Now (s.1 ∙ at) ∙ changed true
            | inr ne ↦ ap Now (s.2 i (omega (arith, past, ne)) ne) ∙ kept true (get_or o i 0) (apart i (omega (arith, is.fits, ne)) (omega (arith, past, ne))) ∙ is.inside i (omega (arith, ne))
          ];
          outside = λ i ge lt. elim (cases_eq i place) [
            | inl e ↦ ap (λ (j : ℕ). Now (get_or (swap o place len) j 0)) e ∙ ap Now s.0 ∙ kept true (get_or o len 0) (apart len (omega (arith, past)) (omega (arith, e))) ∙ is.outside len (omega arith) (omega (arith, past))
            | inr ne ↦ ap Now (s.2 i ne (omega arith)) ∙ kept true (get_or o i 0) (apart i (omega (arith, long)) ne) ∙ is.outside i (omega arith) (omega (arith, long))
          ];
        }

  module _ (present : get_or row k false ≡ true) where
    pub below : place < len
    below = elim (cases_lt place len) [ inl lt ↦ lt | inr ge ↦ absurd (true≢false (sym present ∙ sym (ap (λ (m : ℕ). get_or row m false) at) ∙ is.outside place ge pl)) ]

    pub removed : IsEach (swap o place (len - 1)) → IsSet (swap o place (len - 1)) (len - 1) (set row k false)
    removed each =
        let last = len - 1 in let lastl : last < length o = omega (arith, below, is.fits) in
        let s : Swapped (λ (i : ℕ). get_or o i 0) (λ (i : ℕ). get_or (swap o place last) i 0) place last = swapped_from_swap o (swap o place last) place last 0 pl lastl refl in
        let long = length-swap o place last in let Now : ℕ → Bool = λ (m : ℕ). get_or (set row k false) m false in
        record {
          size = length-set row k false ∙ is.size ∙ sym long;
          small = omega (arith, long, is.small);
          fits = omega (arith, long, is.fits);
          each = each;
          inside = λ i lt. elim (cases_eq i place) [
            | inl e ↦ ap (λ (j : ℕ). Now (get_or (swap o place last) j 0)) e ∙ ap Now s.0 ∙ kept false (get_or o last 0) (apart last lastl (omega (arith, e))) ∙ is.inside last (omega (arith, below))
            | inr ne ↦ ap Now (s.2 i ne (omega arith)) ∙ kept false (get_or o i 0) (apart i (omega arith) ne) ∙ is.inside i (omega arith)
          ];
          outside = λ i ge lt. elim (cases_eq i last) [
            | inl e ↦ ap (λ (j : ℕ). Now (get_or (swap o place last) j 0)) e ∙ ap Now (s.1 ∙ at) ∙ changed false
            | inr ne ↦ ap Now (s.2 i (omega (arith, below, ne)) ne) ∙ kept false (get_or o i 0) (apart i (omega (arith, long)) (omega (arith, below, ne))) ∙ is.outside i (omega (arith, ne)) (omega (arith, long))
          ];
        }

pub listing : (o : List ℕ) (len : ℕ) (row : List Bool) → IsSet o len row → IsListing (record { listed = take len o; row = row })
listing o len row is =
    let long = length-take-le len o is.fits in
    let read : (i d : ℕ) → i < len → get_or (take len o) i d ≡ get_or o i d = λ i d lt. get_or-take len o i d lt in
    record {
      member = λ i lt. ap (λ (m : ℕ). get_or row m false) (read i 0 (omega (arith, long))) ∙ is.inside i (omega (arith, long));
      all = λ k yes.
          let kl : k < length row = elim (cases_lt k (length row)) [ inl lt ↦ lt | inr ge ↦ absurd (true≢false (sym yes ∙ get_or_past row k false ge)) ] in
          let f = is.each.found k (omega (arith, is.size)) in let i = f.0 in let il = f.1 in
          let low : i < len = elim (cases_lt i len) [ inl lt ↦ lt | inr ge ↦ absurd (true≢false (sym yes ∙ sym (ap (λ (m : ℕ). get_or row m false) f.2) ∙ is.outside i ge il)) ] in
          (i, omega (arith, long), read i k low ∙ get_or_default o i k 0 il ∙ f.2);
      once = λ i j il jl e. is.each.once i j (omega (arith, long, is.fits)) (omega (arith, long, is.fits)) (sym (read i 0 (omega (arith, long))) ∙ e ∙ read j 0 (omega (arith, long)));
    }

pub nothing_in : (o : List ℕ) (n : ℕ) → IsEach o → length o ≡ n → n < 2 ^ 32 → IsSet o 0 (replicate n false)
nothing_in o n each long small = record {
  size = length-replicate n false ∙ sym long;
  small = omega (arith, long);
  fits = omega arith;
  each = each;
  inside = λ i lt. absurd (omega arith);
  outside = λ i ge lt. get_or-replicate n (get_or o i 0) false false (omega (arith, each.below i lt, long));
}
