-- Numbers of a whole that stand for those of a part: each is found again, and what is read by them changes with what is written.
use Rattle.std.proofs.Common.{◌≡◌, ◌≢◌, ℕ, suc, ◌-◌, ◌<◌, ◌≤◌, true, false, cond, Option, Some, None, List, length, map, get_or, set, inl, inr, refl, sym, ap, ◌∙◌, arith}
use Rattle.std.specs.Prelude.{nat_eq, nat_lt, position}
use Rattle.std.specs.List.{position_or_len}
use Rattle.std.specs.Option.{option_map}
use Rattle.std.proofs.lemmas.Bool.{cases_eq, eq-eqb, eqb-true, lt-ltb, ne_eqb}
use Rattle.std.proofs.lemmas.List.{ext_get_or, get_or-map, get_or-set_same, get_or-set_other, length-map, length-set}
use Rattle.std.proofs.lemmas.List.Quantifiers.{position-Some}
use Rattle.std.proofs.lemmas.List.Sums.{position_or_len_is}
use Rattle.bz_run_laws.specs.Embeddings.{AreNumbers, in_part, in_whole}

pub some-is : (i k : ℕ) → Some i ≡ Some k → i ≡ k
some-is i k e = cc

before : (o : Option ℕ) (k : ℕ) → option_map suc o ≡ Some k → (i : ℕ) × (o ≡ Some i) × (suc i ≡ k)
before None k e = absurd (cc)
before (Some i) k e = (i, refl, some-is (suc i) k e)

less : (i : ℕ) → suc i - 1 ≡ i
less i = omega arith

more : (k : ℕ) → 0 < k → suc (k - 1) ≡ k
more k from = omega (arith, from)

module _ (numbers : List ℕ) (count most : ℕ) (are : AreNumbers numbers count most) where
  -- what is found is there
  pub there : (n k : ℕ) → in_part numbers n ≡ Some k → (0 < k) × (k ≤ count) × (in_whole numbers k ≡ n)
  there n k e =
      let (i, at, is) = before (position (nat_eq n) numbers) k e in
      let (lt, passes, earlier) = position-Some (nat_eq n) numbers i 0 at in
      let len = are.len in
      let same : n ≡ get_or numbers i 0 = eqb-true n (get_or numbers i 0) passes in
      let place : k - 1 ≡ i = omega (arith, is) in
      (omega (arith, is), omega (arith, is, lt, len), ap (λ j. get_or numbers j 0) place ∙ sym same)

  -- and what is there is found
  pub found : (k : ℕ) → 0 < k → k ≤ count → in_part numbers (in_whole numbers k) ≡ Some k
  found k from to =
      let n = in_whole numbers k in
      let len = are.len in
      let earlier : (j : ℕ) → j < k - 1 → nat_eq n (get_or numbers j 0) ≡ false =
      λ j lt. ne_eqb n (get_or numbers j 0) (λ e. let same : k ≡ suc j = are.differ k (suc j) from to (omega arith) (omega (arith, lt, to)) (e ∙ ap (λ i. get_or numbers i 0) (sym (less j))) in omega (arith, same, lt)) in
      let place : position_or_len (nat_eq n) numbers ≡ k - 1 = position_or_len_is (nat_eq n) numbers (k - 1) 0 (omega (arith, len, to)) earlier (λ lt. eq-eqb n n refl) in
      let within : nat_lt (position_or_len (nat_eq n) numbers) (length numbers) ≡ true = lt-ltb (position_or_len (nat_eq n) numbers) (length numbers) (omega (arith, place, len, from, to)) in
      ap (λ b. option_map suc (cond b (Some (position_or_len (nat_eq n) numbers)) None)) within ∙ ap (λ i. Some (suc i)) place ∙ ap (λ i. Some i) (more k from)

  pub apart : (n k : ℕ) → in_part numbers n ≡ None → 0 < k → k ≤ count → in_whole numbers k ≢ n
  apart n k none from to e =
      let at : Some k ≡ None = sym (found k from to) ∙ ap (in_part numbers) e ∙ none in
      absurd (cc)

  -- what is read by the numbers
  pub read : {X : Type 0} (f : ℕ → X) (k : ℕ) (d : X) → 0 < k → k ≤ count → get_or (map f numbers) (k - 1) d ≡ f (in_whole numbers k)
  read f k d from to = let len = are.len in get_or-map f numbers (k - 1) 0 d (omega (arith, len, from, to))

  -- two readings are alike where each number reads alike
  alike : {X : Type 0} (f g : ℕ → X) (d : X) → ((k : ℕ) → 0 < k → k ≤ count → f (in_whole numbers k) ≡ g (in_whole numbers k)) → map f numbers ≡ map g numbers
  alike f g d same = ext_get_or d (map f numbers) (map g numbers) (length-map numbers f ∙ sym (length-map numbers g)) (λ i lt.
      let len = are.len in
      let mapped = length-map numbers f in
      let to : suc i ≤ count = omega (arith, lt, len, mapped) in
      let at : (h : ℕ → _) → get_or (map h numbers) i d ≡ h (in_whole numbers (suc i)) = λ h. ap (λ j. get_or (map h numbers) j d) (sym (less i)) ∙ read h (suc i) d (omega arith) to in
      at f ∙ same (suc i) (omega arith) to ∙ sym (at g))

  module _ {X : Type 0} (xs : List X) (d : X) (n : ℕ) (x : X) (from : 0 < n) where
    abbrev old : ℕ → X
    old m = get_or xs (m - 1) d

    abbrev new : ℕ → X
    new m = get_or (set xs (n - 1) x) (m - 1) d

    kept : (m : ℕ) → 0 < m → m ≢ n → new m ≡ old m
    kept m m-from ne = get_or-set_other xs (n - 1) (m - 1) x d (λ e. ne (omega (arith, from, m-from, e)))

    -- written at a number of none of them
    pub elsewhere : in_part numbers n ≡ None → map new numbers ≡ map old numbers
    elsewhere none = alike new old d (λ k k-from k-to. kept (in_whole numbers k) (are.from k k-from k-to) (apart n k none k-from k-to))

    -- written at the number of k
    pub here : (k : ℕ) → in_part numbers n ≡ Some k → n ≤ length xs → map new numbers ≡ set (map old numbers) (k - 1) x
    here k some within =
        let (k-from, k-to, is) = there n k some in
        let len = are.len in
        let new-len = length-map numbers new in
        let old-len = length-map numbers old in
        ext_get_or d (map new numbers) (set (map old numbers) (k - 1) x) (new-len ∙ sym old-len ∙ sym (length-set (map old numbers) (k - 1) x)) (λ i lt.
        let to : suc i ≤ count = omega (arith, lt, len, new-len) in
        let at : (h : ℕ → X) → get_or (map h numbers) i d ≡ h (in_whole numbers (suc i)) = λ h. ap (λ j. get_or (map h numbers) j d) (sym (less i)) ∙ read h (suc i) d (omega arith) to in
        elim (cases_eq (suc i) k) [
          | inl same ↦
              let place : k - 1 ≡ i = omega (arith, same) in
              let whole : in_whole numbers (suc i) ≡ n = ap (in_whole numbers) same ∙ is in
              at new ∙ ap new whole ∙ get_or-set_same xs (n - 1) x d (omega (arith, from, within))
              ∙ sym (ap (λ j. get_or (set (map old numbers) j x) i d) place ∙ get_or-set_same (map old numbers) i x d (omega (arith, to, len, old-len)))
          | inr ne ↦
              let other : in_whole numbers (suc i) ≢ n = λ e. ne (are.differ (suc i) k (omega arith) to k-from k-to (e ∙ sym is)) in
              at new ∙ kept (in_whole numbers (suc i)) (are.from (suc i) (omega arith) to) other ∙ sym (at old)
              ∙ sym (get_or-set_other (map old numbers) (k - 1) i x d (λ e. ne (omega (arith, e, k-from))))
        ])
