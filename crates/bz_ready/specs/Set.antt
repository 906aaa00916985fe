-- A set of numbers, as its members by place and as a row that tells of each number whether it is one.
use Rattle.std.specs.Prelude.{◌≡◌, ◌⊎◌, ℕ, ◌<◌, ◌≤◌, ◌^◌, Bool, true, false, List, length, slice_index, slice_index_or, Option, Some, None, refl}
use Rattle.std.specs.List.{Contains}
use Rattle.std.specs.Coded.{Coded, code_by, coded×, coded_list, coded_ℕ, coded_bool}
use Rattle.bz_ready.specs.Order.{IsEach}

pub record Members : Type 0 where
  pub listed : List ℕ
  pub row : List Bool

abbrev pub members_code : Coded Members
members_code = code_by (List ℕ × List Bool) (coded× (coded_list coded_ℕ) (coded_list coded_bool)) (λ m. (m.listed, m.row)) (λ p. record { listed = p.0; row = p.1 }) (λ _. refl)

-- the list has each member once, and nothing else
pub record IsListing (m : Members) : Type 0 where
  pub member : (i : ℕ) → i < length m.listed → slice_index_or m.row (slice_index m.listed i) false ≡ true
  pub all : (k : ℕ) → slice_index_or m.row k false ≡ true → Contains m.listed k
  pub once : (i j : ℕ) → i < length m.listed → j < length m.listed → slice_index m.listed i ≡ slice_index m.listed j → i ≡ j

-- the first len numbers of the order are the members
pub record IsSet (order : List ℕ) (len : ℕ) (row : List Bool) : Type 0 where
  pub size : length row ≡ length order
  pub small : length order < 2 ^ 32
  pub fits : len ≤ length order
  pub each : IsEach order
  pub inside : (i : ℕ) → i < len → slice_index_or row (slice_index order i) false ≡ true
  pub outside : (i : ℕ) → len ≤ i → i < length order → slice_index_or row (slice_index order i) false ≡ false

-- The least member at or above k; where there is none, the least of all.
abbrev pub IsNextFrom : List Bool → ℕ → Option ℕ → Type 0
IsNextFrom row k None = (j : ℕ) → slice_index_or row j false ≡ false
IsNextFrom row k (Some m) = (slice_index_or row m false ≡ true)
    × (((k ≤ m) × ((j : ℕ) → k ≤ j → j < m → slice_index_or row j false ≡ false)) ⊎ ((j : ℕ) → slice_index_or row j false ≡ true → (m ≤ j) × (j < k)))
