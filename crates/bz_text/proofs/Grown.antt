-- Texts in memory that grow, one piece after another.
use Rattle.std.proofs.Common.{◌≡◌, ℕ, ◌≤◌, Option, Some, None, List, [], ◌∷◌, ◌++◌, length, take, refl, sym, ap, ◌∙◌, subst, append_assoc}
use Rattle.std.specs.List.{flat_map}
use Rattle.std.proofs.lemmas.List.{append-nil, take_all}
use Rattle.bz_text.specs.Growing.{Grows}

pub grows_nothing : (a : Option (List ℕ)) → Grows a a []
grows_nothing None = tt
grows_nothing (Some xs) = sym (append-nil xs)

pub grows_then : (a b c : Option (List ℕ)) (t u : List ℕ) → Grows a b t → Grows b c u → Grows a c (t ++ u)
grows_then a b None t u p q = tt
grows_then None None (Some zs) t u p q = absurd q
grows_then None (Some ys) (Some zs) t u p q = absurd p
grows_then (Some xs) None (Some zs) t u p q = absurd q
grows_then (Some xs) (Some ys) (Some zs) t u p q = q ∙ ap (λ s. s ++ u) p ∙ append_assoc xs t u

-- a loop that has come to its end
pub grows_all : {X : Type 0} (f : X → List ℕ) (xs : List X) (i : ℕ) (a b : Option (List ℕ)) → length xs ≤ i → Grows a b (flat_map f (take i xs)) → Grows a b (flat_map f xs)
grows_all f xs i a b le grown = subst (λ ys. Grows a b (flat_map f ys)) (take_all i xs le) grown
