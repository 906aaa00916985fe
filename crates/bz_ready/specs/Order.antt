-- The numbers below a limit, each once, and where each stands.
use Rattle.std.specs.Prelude.{◌≡◌, ℕ, ◌<◌, ◌^◌, List, length, slice_index}

-- each place has a number below the limit, and each of these stands at one place
pub record IsEach (order : List ℕ) : Type 0 where
  pub below : (i : ℕ) → i < length order → slice_index order i < length order
  pub found : (k : ℕ) → k < length order → (i : ℕ) × (i < length order) × (slice_index order i ≡ k)
  pub once : (i j : ℕ) → i < length order → j < length order → slice_index order i ≡ slice_index order j → i ≡ j

-- the second list tells the place of each number in the first
pub record IsOrder (order places : List ℕ) : Type 0 where
  pub size : length places ≡ length order
  pub small : length order < 2 ^ 32
  pub number_at : (k : ℕ) → k < length order → slice_index order (slice_index places k) ≡ k
  pub place_in : (k : ℕ) → k < length order → slice_index places k < length order
  pub place_of : (i : ℕ) → i < length order → slice_index places (slice_index order i) ≡ i
  pub number_in : (i : ℕ) → i < length order → slice_index order i < length order
