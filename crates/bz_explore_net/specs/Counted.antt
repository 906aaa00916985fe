-- A row of bits with the sums of a tree over it.
use Rattle.std.specs.Prelude.{◌≡◌, ℕ, zero, suc, ◌+◌, ◌*◌, ◌<◌, ◌≤◌, ◌^◌, Bool, false, List, length, slice_index_or}
use Rattle.std.specs.Int.{from_bool}

-- the first of the leaves that lie so many levels below a node of the tree: below node n stand nodes 2 n and 2 n + 1
abbrev pub leaf_of : ℕ → ℕ → ℕ
leaf_of n zero = n
leaf_of n (suc levels) = leaf_of (2 * n) levels

abbrev pub sum_at : List ℕ → ℕ → ℕ
sum_at sums n = slice_index_or sums n 0

-- a node has the sum of the two below it
abbrev pub IsSum : List ℕ → ℕ → Type 0
IsSum sums n = sum_at sums n ≡ sum_at sums (2 * n) + sum_at sums (2 * n + 1)

-- A leaf has a one where its bit is set, and each node from 1 on the sum of the two below it.
pub record IsCounted (row : List Bool) (sums : List ℕ) (levels : ℕ) : Type 0 where
  pub nodes : length sums ≡ leaf_of 2 levels
  pub few : leaf_of 1 levels ≤ 2 ^ 30
  pub room : length row ≤ leaf_of 1 levels
  pub leaves : (k : ℕ) → k < leaf_of 1 levels → sum_at sums (leaf_of 1 levels + k) ≡ from_bool (slice_index_or row k false)
  pub inner : (n : ℕ) → 0 < n → n < leaf_of 1 levels → IsSum sums n
