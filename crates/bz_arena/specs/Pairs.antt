-- Two nodes of a list at once.
use Rattle.std.specs.Prelude.{◌≡◌, ℕ, List, slice_set, slice_index_or}
use Rattle.std.specs.Borrow.{MutBor}
use Rattle.std.specs.Fn.{Once}

-- the list with x at i and y at j
abbrev pub with_pair : {X : Type 0} → List X → ℕ → ℕ → X → X → List X
with_pair xs i j x y = slice_set (slice_set xs i x) j y

-- f, called at references to the nodes at i and j, may give r, and leave ys; it reaches no other node
pub record UpdatesBoth {F X R : Type 0} (g : Once F (MutBor X × (MutBor X × Unit {0})) (R × (MutBor X × (MutBor X × Unit {0})))) (f : F) (xs : List X) (i j : ℕ) (r : R) (ys : List X) : Type 0 where
  pub first : MutBor X
  pub second : MutBor X
  pub first_left : MutBor X
  pub second_left : MutBor X
  pub first_shown : first.now ≡ slice_index_or xs i first.now
  pub second_shown : second.now ≡ slice_index_or xs j second.now
  pub called : g.post f (first, (second, tt)) (r, (first_left, (second_left, tt)))
  pub left : ys ≡ with_pair xs i j first_left.now second_left.now
