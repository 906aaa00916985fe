-- A name is found by the places of all names, which lie in the order of the names.
use Rattle.std.proofs.Common.{Less, Equal, Greater, ◌≡◌, ◌⊎◌, inl, inr, ℕ, zero, suc, ◌+◌, ◌<◌, ◌≤◌, Bool, true, false, Option, Some, None, List, [], ◌∷◌, ◌++◌, length, map, take, refl, ap, ap₂, sym, ◌∙◌, subst, arith, bytes_eq, position, cond, ltb}
use Rattle.std.specs.Prelude.{slice_get, slice_index_or, nat_eq, All, Contains}
use Rattle.std.specs.Cmp.{IsTotalOrder, IsStrictWeakOrder}
use Rattle.std.specs.Cmp.Lexicographic.{slice_cmp}
use Rattle.std.specs.List.{position_or_len}
use Rattle.std.specs.List.Sorted.{IsPermutation, IsSorted, IsNonDecreasingBy, IsPartitionedBy, IsPartitionPoint}
use Rattle.std.specs.declared.cmp.Ordering.{Ordering}
use Rattle.std.specs.Ordering.{nat_cmp, ordering_then, ordering_index, ordering_reverse, is_lt, is_eq}
use Rattle.std.proofs.lemmas.Bool.{cases_lt, cases_eq, lt-ltb, le-ltb, ltb-true, ltb-false}
use Rattle.std.proofs.lemmas.Cmp.{then_total, nat_cmp_total, nat_list_cmp_total}
use Rattle.std.specs.Cmp.{on_total}
use Rattle.std.specs.Cmp.Lexicographic.{on_texts}
use Rattle.std.proofs.lemmas.List.{get_or-map, get_or_default, length-map, length-take-le, map_push, take_more}
use Rattle.std.proofs.lemmas.Simd.{map-map}
use Rattle.std.proofs.lemmas.List.MinMax.{ranks_by}
use Rattle.std.proofs.lemmas.List.Sorted.{All-permutation, Contains-permutation, IsPermutation-map, sorted_far, searchable_from_sorted, IsPartitionedBy-ltb}
use Rattle.std.proofs.lemmas.List.Sums.{position_or_len_is}
use Rattle.std.proofs.lemmas.Map.Text.{is_eq-slice_cmp}
use Rattle.std.proofs.lemmas.Option.{slice_get-get_or, slice_get_within, get_or_from_slice_get}
use Rattle.std.proofs.lemmas.Slice.Eq.{bytes_eq-Decides}
use Rattle.bz_model.specs.NameRows.{placed, by_name, IsRow, comes_before, is_name}

false-true : false ≡ true → ⊥
false-true e = cc

pub length_placed : (k : ℕ) (names : List (List ℕ)) → length (placed k names) ≡ length names
length_placed k [] = refl
length_placed k (name ∷ names) = ap suc (length_placed (suc k) names)

-- what stands at a place is the name there, and the place
placed_at : (k : ℕ) (names : List (List ℕ)) (i : ℕ) (d : List ℕ × ℕ) (e : List ℕ) → i < length names → slice_index_or (placed k names) i d ≡ (slice_index_or names i e, k + i)
placed_at k [] i d e lt = absurd (omega arith)
placed_at k (name ∷ names) zero d e lt =
    let none : k ≡ k + 0 = omega arith in
    ap (λ n. (name, n)) none
placed_at k (name ∷ names) (suc i) d e lt =
    let one : suc k + i ≡ k + suc i = omega arith in
    placed_at (suc k) names i d e (omega arith) ∙ ap (λ n. (slice_index_or names i e, n)) one

placed_here : (names : List (List ℕ)) (i : ℕ) (d : List ℕ × ℕ) (e : List ℕ) → i < length names → slice_index_or (placed 0 names) i d ≡ (slice_index_or names i e, i)
placed_here names i d e lt =
    let none : 0 + i ≡ i = omega arith in
    placed_at 0 names i d e lt ∙ ap (λ n. (slice_index_or names i e, n)) none

same_name : (name : List ℕ) → bytes_eq name name ≡ true
same_name name = (bytes_eq-Decides name name).1 refl

equal_self : (name : List ℕ) → slice_cmp nat_cmp name name ≡ Equal
equal_self name =
    let tied = is_eq-slice_cmp name name ∙ same_name name in
    elim (slice_cmp nat_cmp name name) as (λ o. is_eq o ≡ true → o ≡ Equal) [
      | Less ↦ λ e. cc
      | Equal ↦ λ e. refl
      | Greater ↦ λ e. cc
    ] tied

names_total : IsTotalOrder by_name
names_total = then_total (on_texts (λ (e : List ℕ × ℕ). e.0)) (on_total (λ (e : List ℕ × ℕ). e.1) nat_cmp_total)

names_rank : IsStrictWeakOrder (λ a b. is_lt (by_name a b))
names_rank = ranks_by names_total (λ (e : List ℕ × ℕ). e)

never_below_zero : (p : ℕ) → ltb (ordering_index (nat_cmp p 0)) 1 ≡ false
never_below_zero p =
    let above_all : ltb p 0 ≡ false = le-ltb p 0 (omega arith) in
    ap (λ b. ltb (ordering_index (cond b Less (cond (nat_eq p 0) Equal Greater))) 1) above_all
    ∙ elim (nat_eq p 0) as (λ b. ltb (ordering_index (cond b Equal Greater)) 1 ≡ false) [
      | true ↦ refl
      | false ↦ refl
    ]

-- an entry lies below a name at its first place where its own name does
below_name : (o : Ordering) (p : ℕ) → is_lt o ≡ ltb (ordering_index (ordering_then o (nat_cmp p 0))) 1
below_name Less p = refl
below_name Equal p = sym (never_below_zero p)
below_name Greater p = refl

-- what is neither below another nor equal to it is above it
above : (o turned : Ordering) → o ≡ ordering_reverse turned → (next : Ordering) → is_lt turned ≡ false → is_eq turned ≡ false → is_lt (ordering_then o next) ≡ false → ⊥
above o Less e next not_less not_equal not = false-true (sym not_less)
above o Equal e next not_less not_equal not = false-true (sym not_equal)
above o Greater e next not_less not_equal not = false-true (sym not ∙ ap (λ p. is_lt (ordering_then p next)) e)

module _ (names : List (List ℕ)) (name : List ℕ) where
  abbrev IsEntry : List ℕ × ℕ → Type 0
  IsEntry e = slice_get names e.1 ≡ Some e.0

  entries : All IsEntry (placed 0 names)
  entries k d lt =
      let within : k < length names = rw (length_placed 0 names) at lt in
      let at = placed_here names k d [] within in
      subst IsEntry (sym at) (slice_get-get_or names k [] within)

  stands : (place : ℕ) → slice_get names place ≡ Some name → Contains (placed 0 names) (name, place)
  stands place is =
      let lt = slice_get_within names place name is in
      (place, rw (sym (length_placed 0 names)) at lt, placed_here names place (name, place) name lt ∙ ap (λ n. (n, place)) (get_or_from_slice_get names place name name is))

  -- the name is found at its first place
  first : (place : ℕ) → slice_get names place ≡ Some name → ((j : ℕ) → j < place → slice_get names j ≡ Some name → ⊥) → Some place ≡ position (bytes_eq name) names
  first place is not_before =
      let lt = slice_get_within names place name is in
      let at = position_or_len_is (bytes_eq name) names place [] (omega arith) (λ k before. differs k before) (λ t. ap (bytes_eq name) (get_or_from_slice_get names place name [] is) ∙ same_name name) in
      rw (at, lt-ltb place (length names) lt) refl
    where
      differs : (k : ℕ) → k < place → bytes_eq name (slice_index_or names k []) ≡ false
      differs k before =
          elim (bytes_eq name (slice_index_or names k [])) as (λ b. bytes_eq name (slice_index_or names k []) ≡ b → b ≡ false) [
            | true ↦ λ e.
                let same = (bytes_eq-Decides name (slice_index_or names k [])).0 e in
                let lt = slice_get_within names place name is in
                absurd (not_before k before (slice_get-get_or names k [] (omega arith) ∙ ap Some (sym same)))
            | false ↦ λ e. refl
          ] refl

  absent : ((j : ℕ) → slice_get names j ≡ Some name → ⊥) → None ≡ position (bytes_eq name) names
  absent none =
      let at = position_or_len_is (bytes_eq name) names (length names) [] (omega arith) (λ k before. differs k before) (λ t. absurd (omega arith)) in
      rw (at, le-ltb (length names) (length names) (omega arith)) refl
    where
      differs : (k : ℕ) → k < length names → bytes_eq name (slice_index_or names k []) ≡ false
      differs k lt =
          elim (bytes_eq name (slice_index_or names k [])) as (λ b. bytes_eq name (slice_index_or names k []) ≡ b → b ≡ false) [
            | true ↦ λ e.
                let same = (bytes_eq-Decides name (slice_index_or names k [])).0 e in
                absurd (none k (slice_get-get_or names k [] lt ∙ ap Some (sym same)))
            | false ↦ λ e. refl
          ] refl

  module _ (row : List ℕ) (is_row : IsRow names row) where
    abbrev sorted : List (List ℕ × ℕ)
    sorted = is_row.sorted

    are_entries : All IsEntry sorted
    are_entries = All-permutation IsEntry (placed 0 names) sorted is_row.all entries

    low : (k : ℕ) (d : List ℕ × ℕ) → k < length sorted → comes_before (slice_get names (slice_index_or row k d.1)) name ≡ ltb (ordering_index (by_name (slice_index_or sorted k d) (name, 0))) 1
    low k d lt =
        let e = slice_index_or sorted k d in
        let at : slice_index_or row k d.1 ≡ e.1 = ap (λ r. slice_index_or r k d.1) is_row.are ∙ get_or-map (λ (x : List ℕ × ℕ). x.1) sorted k d d.1 lt in
        ap (λ p. comes_before (slice_get names p) name) at ∙ ap (λ o. comes_before o name) (are_entries k d lt) ∙ below_name (slice_cmp nat_cmp e.0 name) e.1

    same_length : length row ≡ length sorted
    same_length = ap length is_row.are ∙ length-map sorted (λ e. e.1)

    pub parted : IsPartitionedBy (λ p. comes_before (slice_get names p) name) row
    parted i j d le lt passes =
        let within : j < length sorted = rw same_length at lt in
        let e : List ℕ × ℕ = ([], d) in
        let rising = searchable_from_sorted names_total (λ (x : List ℕ × ℕ). x) sorted (name, 0) is_row.rises in
        let halves = IsPartitionedBy-ltb (λ (y : List ℕ × ℕ). ordering_index (by_name y (name, 0))) sorted 1 rising in
        low i e (omega arith) ∙ halves i j e le within (sym (low j e within) ∙ passes)

    module _ (at : ℕ) (point : IsPartitionPoint (λ p. comes_before (slice_get names p) name ≡ true) (λ p. comes_before (slice_get names p) name ≡ false) row at) where
      row_at : (k : ℕ) (d : List ℕ × ℕ) → k < length sorted → slice_index_or row k d.1 ≡ (slice_index_or sorted k d).1
      row_at k d lt = ap (λ r. slice_index_or r k d.1) is_row.are ∙ get_or-map (λ (x : List ℕ × ℕ). x.1) sorted k d d.1 lt

      -- each place of the name stands at the point or behind it
      record Later (j : ℕ) : Type 0 where
        k : ℕ
        after : at ≤ k
        within : k < length sorted
        is : slice_index_or sorted k (name, j) ≡ (name, j)

      later : (j : ℕ) → slice_get names j ≡ Some name → Later j
      later j named =
          let (k, lt, is) = Contains-permutation (placed 0 names) sorted (name, j) is_row.all (stands j named) in
          elim (cases_lt k at) [
            | inl before ↦
                let passes = point.0 k j (omega arith) before in
                let there = row_at k (name, j) lt ∙ ap (λ (x : List ℕ × ℕ). x.1) is in
                let low_self = ap (λ p. comes_before (slice_get names p) name) there ∙ ap (λ o. comes_before o name) named ∙ ap is_lt (equal_self name) in
                absurd (false-true (sym low_self ∙ passes))
            | inr after ↦ record { k = k; after = after; within = lt; is = is }
          ]

      not_below : (j : ℕ) → Later j → is_lt (by_name (name, j) (slice_index_or sorted at (name, j))) ≡ false
      not_below j it =
          let far = sorted_far (λ a b. is_lt (by_name a b)) names_rank sorted is_row.rises at it.k (name, j) it.after it.within in
          rw it.is at far

      pub found : (place : ℕ) → at < length row → place ≡ slice_index_or row at place → is_name (slice_get names place) name ≡ true → Some place ≡ position (bytes_eq name) names
      found place lt here passes = first place named (λ j before j_named. clash j before (later j j_named))
        where
          within : at < length sorted
          within = rw same_length at lt

          entry : List ℕ × ℕ
          entry = slice_index_or sorted at ([], place)

          place_is : place ≡ entry.1
          place_is = here ∙ row_at at ([], place) within

          got : slice_get names place ≡ Some entry.0
          got = ap (slice_get names) place_is ∙ are_entries at ([], place) within

          name_is : entry.0 ≡ name
          name_is = (bytes_eq-Decides entry.0 name).0 (sym (ap (λ o. is_name o name) got) ∙ passes)

          named : slice_get names place ≡ Some name
          named = got ∙ ap Some name_is

          is_entry : entry ≡ (name, place)
          is_entry = ap₂ (λ n p. (n, p)) name_is (sym place_is)

          clash : (j : ℕ) → j < place → Later j → ⊥
          clash j before it =
              let same = get_or_default sorted at (name, j) ([], place) within ∙ is_entry in
              let less : nat_cmp j place ≡ Less = ap (λ b. cond b Less (cond (nat_eq j place) Equal Greater)) (lt-ltb j place before) in
              let seen = ap (λ e. is_lt (by_name (name, j) e)) same ∙ ap₂ (λ o p. is_lt (ordering_then o p)) (equal_self name) less in
              false-true (sym (not_below j it) ∙ seen)

      pub missed : (place : ℕ) → at < length row → place ≡ slice_index_or row at place → is_name (slice_get names place) name ≡ false → None ≡ position (bytes_eq name) names
      missed place lt here fails = absent (λ j j_named. clash j (later j j_named))
        where
          within : at < length sorted
          within = rw same_length at lt

          clash : (j : ℕ) → Later j → ⊥
          clash j it =
              let e = slice_index_or sorted at (name, j) in
              let got = are_entries at (name, j) within in
              let place_is = here ∙ get_or_default row at place j lt ∙ row_at at (name, j) within in
              let other : bytes_eq e.0 name ≡ false = sym (ap (λ o. is_name o name) (ap (slice_get names) place_is ∙ got)) ∙ fails in
              let high : is_lt (slice_cmp nat_cmp e.0 name) ≡ false = sym (ap (λ o. comes_before o name) (ap (slice_get names) (row_at at (name, j) within) ∙ got)) ∙ point.1 at j (omega arith) lt in
              above (slice_cmp nat_cmp name e.0) (slice_cmp nat_cmp e.0 name) (nat_list_cmp_total.antisymm name e.0) (nat_cmp j e.1) high (is_eq-slice_cmp e.0 name ∙ other) (not_below j it)

      pub past : length row ≤ at → None ≡ position (bytes_eq name) names
      past le = absent (λ j j_named. let it = later j j_named in let a = it.after in let b = it.within in let c = same_length in omega arith)

placed_push : (k : ℕ) (names : List (List ℕ)) (name : List ℕ) → placed k (names ++ name ∷ []) ≡ placed k names ++ (name, k + length names) ∷ []
placed_push k [] name =
    let none : k ≡ k + 0 = omega arith in
    ap (λ n. (name, n) ∷ []) none
placed_push k (first ∷ names) name =
    let one : suc k + length names ≡ k + suc (length names) = omega arith in
    ap (λ es. (first, k) ∷ es) (placed_push (suc k) names name ∙ ap (λ n. placed (suc k) names ++ (name, n) ∷ []) one)

-- one name more, with its place
pub placed_more : {X A : Type 0} (f : X → List ℕ) (view : A → List ℕ × ℕ) (xs : List X) (done : List A) (i : ℕ) (x : X) (a : A) → i < length xs
    → x ≡ slice_index_or xs i x → view a ≡ (f x, i) → map view done ≡ placed 0 (map f (take i xs)) → map view (done ++ a ∷ []) ≡ placed 0 (map f (take (i + 1) xs))
placed_more f view xs done i x a within read same before =
    let count : length (map f (take i xs)) ≡ i = length-map (take i xs) f ∙ length-take-le i xs (omega arith) in
    let from : 0 + length (map f (take i xs)) ≡ i = omega (arith, count) in
    map_push view done a
    ∙ ap₂ (λ es e. es ++ e ∷ []) before (same ∙ ap₂ (λ y n. (f y, n)) read (sym from))
    ∙ sym (placed_push 0 (map f (take i xs)) (f (slice_index_or xs i x)))
    ∙ ap (placed 0) (sym (ap (map f) (take_more xs i x within) ∙ map_push f (take i xs) (slice_index_or xs i x)))

-- in order as they are seen
rises_as_seen : {A : Type 0} (view : A → List ℕ × ℕ) (es : List A) → IsSorted (λ x y. by_name (view x) (view y)) es → IsSorted by_name (map view es)
rises_as_seen view [] up k d from to = absurd (omega arith)
rises_as_seen view (a ∷ es) up k d from to =
    let within : k + 1 < length (a ∷ es) = rw (length-map (a ∷ es) view) at to in
    let here = get_or-map view (a ∷ es) k a d (omega arith) in
    let next = get_or-map view (a ∷ es) (k + 1) a d within in
    ap₂ (λ x y. is_lt (by_name x y)) next here ∙ up k a from within

pub row_made : {A : Type 0} (view : A → List ℕ × ℕ) (names : List (List ℕ)) (es sorted : List A) → map view es ≡ placed 0 names → IsPermutation es sorted
    → IsSorted (λ x y. by_name (view x) (view y)) sorted → (row : List ℕ) → row ≡ map (λ e. (view e).1) sorted → IsRow names row
row_made view names es ordered with_places moved up row are = record {
  sorted = map view ordered;
  all = subst (λ ps. IsPermutation ps (map view ordered)) with_places (IsPermutation-map view es ordered moved);
  rises = rises_as_seen view ordered up;
  are = are ∙ sym (map-map (λ (e : List ℕ × ℕ). e.1) view ordered);
}
