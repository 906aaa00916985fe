-- Names that are found by a row of their places, which lie in the order of the names.
use Rattle.std.specs.Prelude.{◌≡◌, ℕ, suc, Bool, false, Option, None, Some, List, [], ◌∷◌, map, slice_get, bytes_eq}
use Rattle.std.specs.Cmp.Lexicographic.{slice_cmp}
use Rattle.std.specs.List.Sorted.{IsPermutation, IsSorted}
use Rattle.std.specs.declared.cmp.Ordering.{Ordering}
use Rattle.std.specs.Ordering.{nat_cmp, ordering_then, is_lt}

-- each name with its place, where the first place is k
abbrev pub placed : ℕ → List (List ℕ) → List (List ℕ × ℕ)
placed k [] = []
placed k (name ∷ names) = (name, k) ∷ placed (suc k) names

-- by the bytes of the names, and equal names by their places
abbrev pub by_name : List ℕ × ℕ → List ℕ × ℕ → Ordering
by_name a b = ordering_then (slice_cmp nat_cmp a.0 b.0) (nat_cmp a.1 b.1)

-- the places of the names, each once, in the order of the names
pub record IsRow (names : List (List ℕ)) (row : List ℕ) : Type 0 where
  pub sorted : List (List ℕ × ℕ)
  pub all : IsPermutation (placed 0 names) sorted
  pub rises : IsSorted by_name sorted
  pub are : row ≡ map (λ e. e.1) sorted

-- whether a name comes before another one
abbrev pub comes_before : Option (List ℕ) → List ℕ → Bool
comes_before None name = false
comes_before (Some here) name = is_lt (slice_cmp nat_cmp here name)

-- whether it is this name
abbrev pub is_name : Option (List ℕ) → List ℕ → Bool
is_name None name = false
is_name (Some here) name = bytes_eq here name
