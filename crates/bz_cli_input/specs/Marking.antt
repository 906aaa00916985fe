-- Which parts have been marked as used.
use Rattle.std.specs.Prelude.{◌≡◌, ℕ, ◌<◌, ◌||◌, Bool, false, List, length, slice_index_or}

-- as many marks, and those that were set, and of the others those that the test tells
pub record Marks (old new : List Bool) (test : ℕ → Bool) : Type 0 where
  pub count : length new ≡ length old
  pub each : (n : ℕ) → n < length old → slice_index_or new n false ≡ (slice_index_or old n false || test n)
