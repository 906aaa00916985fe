-- Where a list first has what is asked of each of its elements.
use Rattle.std.proofs.Common.{◌≡◌, ◌+◌, Bool, cond, not, List, [], ◌∷◌, None, Some, map, length, position, nat_lt, refl, ap, ap₂}
use Rattle.std.proofs.lemmas.List.{length-map}
use Rattle.std.specs.List.{position_or_len}

module _ {X Y : Type 0} (f : Y → Bool) (g : X → Y) where
  pub position_or_len-map : (xs : List X) → position_or_len f (map g xs) ≡ position_or_len (λ x. f (g x)) xs
  position_or_len-map [] = refl
  position_or_len-map (x ∷ xs) = ap (λ n. cond (not (f (g x))) (1 + n) 0) (position_or_len-map xs)

  pub position-map : (xs : List X) → position f (map g xs) ≡ position (λ x. f (g x)) xs
  position-map xs = ap₂ (λ n m. cond (nat_lt n m) (Some n) None) (position_or_len-map xs) (length-map xs g)
