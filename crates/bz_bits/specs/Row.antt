-- A row of bits in words of 64.
use Rattle.std.specs.Prelude.{◌≡◌, ◌≢◌, ℕ, suc, ◌+◌, ◌*◌, ◌/◌, ◌%◌, ◌^◌, ◌<◌, ◌≤◌, Bool, true, false, ◌==◌, List, map, length, slice_index_or, Option, Some, None}
use Rattle.std.specs.List.{range_with_len}
use Rattle.std.specs.Int.{bit_at}

-- the bit at a place
abbrev pub bit_of : List ℕ → ℕ → ℕ
bit_of words k = bit_at (slice_index_or words (k / 64) 0) (k % 64)

-- the first n bits
unfoldable pub bits : List ℕ → ℕ → List Bool
bits words n = map (λ k. bit_of words k == 1) (range_with_len 0 n)

-- bit i of the first of these words tells whether word i + 1 has a bit
pub record Tells (words : List ℕ) : Type 0 where
  pub none : (i : ℕ) → i < 64 → bit_at (slice_index_or words 0 0) i ≡ 0 → slice_index_or words (suc i) 0 ≡ 0
  pub some : (i : ℕ) → i < 64 → bit_at (slice_index_or words 0 0) i ≡ 1 → slice_index_or words (suc i) 0 ≢ 0

-- the words hold n bits, and no 1 past them
pub record IsRow (words : List ℕ) (n : ℕ) : Type 0 where
  pub room : n ≤ 64 * length words
  pub small : n < 2 ^ 64
  pub tight : 64 * length words < n + 64
  pub clear : (k : ℕ) → n ≤ k → bit_of words k ≡ 0
  pub words_fit : (i : ℕ) → slice_index_or words i 0 < 2 ^ 64

-- the first 1 at or above a place
abbrev pub IsNext : List Bool → ℕ → Option ℕ → Type 0
IsNext xs from None = (k : ℕ) → from ≤ k → slice_index_or xs k false ≡ false
IsNext xs from (Some k) = (from ≤ k) × (k < length xs) × (slice_index_or xs k false ≡ true) × ((j : ℕ) → from ≤ j → j < k → slice_index_or xs j false ≡ false)

-- the first 1 at or above a place in the word of that place
abbrev pub IsNextInWord : List Bool → ℕ → Option ℕ → Type 0
IsNextInWord xs from None = (k : ℕ) → from ≤ k → k / 64 ≡ from / 64 → slice_index_or xs k false ≡ false
IsNextInWord xs from (Some k) = (k / 64 ≡ from / 64) × IsNext xs from (Some k)

-- the first 1 above a place in the word of that place
abbrev pub IsNextAfter : List Bool → ℕ → Option ℕ → Type 0
IsNextAfter xs place None = (k : ℕ) → place < k → k / 64 ≡ place / 64 → slice_index_or xs k false ≡ false
IsNextAfter xs place (Some k) = (k / 64 ≡ place / 64) × IsNext xs (suc place) (Some k)

-- whether a word has a 1
abbrev pub HasOne : List Bool → ℕ → Bool → Type 0
HasOne xs at true = (k : ℕ) × (k / 64 ≡ at) × (slice_index_or xs k false ≡ true)
HasOne xs at false = (k : ℕ) → k / 64 ≡ at → slice_index_or xs k false ≡ false

-- the second row tells of each word of the first whether it has a 1
pub record Sums (xs ys : List Bool) : Type 0 where
  pub room : length xs ≤ 64 * length ys
  pub small : length xs < 2 ^ 64
  pub told : (i : ℕ) → HasOne xs i (slice_index_or ys i false)
