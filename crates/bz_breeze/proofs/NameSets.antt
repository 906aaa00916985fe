-- What is asked of any of a list's elements through what each has.
use Rattle.std.proofs.Common.{◌≡◌, Bool, ◌||◌, List, [], ◌∷◌, map, refl, ap}
use Rattle.std.specs.List.{list_any}

module _ {X Y : Type 0} (f : Y → Bool) (g : X → Y) where
  pub list_any-map : (xs : List X) → list_any f (map g xs) ≡ list_any (λ x. f (g x)) xs
  list_any-map [] = refl
  list_any-map (x ∷ xs) = ap (λ b. f (g x) || b) (list_any-map xs)
