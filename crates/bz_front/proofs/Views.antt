-- Lists of views, read by `get_elem?`: their greatest number published and the sum of their parts.
use Rattle.std.proofs.Common.{◌≡◌, ◌≢◌, ℕ, zero, suc, ◌+◌, ◌<◌, ◌≤◌, max, List, [], ◌∷◌, ◌++◌, length, get_or, set, sym, refl, ap, ◌∙◌, subst, arith}
use mathlib.Core.Option.{some, some-injective, some-ne-none}
use lib.ListN.{get_elem?}
use Rattle.std.specs.List.{All, sum_by}
use Rattle.std.proofs.lemmas.List.Sums.{sum_by-set}
use Rattle.bz_front.specs.declared.view.View.{View}
use Rattle.bz_front.specs.Rules.{greatest, spent}

pub get_at : {A : Type 0} (xs : List A) (i : ℕ) (a d : A) → get_elem? xs i ≡ some a → (i < length xs) × (get_or xs i d ≡ a)
get_at [] i a d e = absurd (some-ne-none a (sym e))
get_at (x ∷ xs) zero a d e = (omega arith, some-injective x a e)
get_at (x ∷ xs) (suc i) a d e = let r = get_at xs i a d e in (omega (arith, r.0), r.1)

-- what holds of all holds of the one at i
pub all_at : {A : Type 0} (P : A → Type 0) (xs : List A) (i : ℕ) (a : A) → All P xs → get_elem? xs i ≡ some a → P a
all_at P xs i a all at = let r = get_at xs i a a at in subst P r.1 (all i a r.0)

pub parts_set : (xs : List View) (i : ℕ) (v w : View) → get_elem? xs i ≡ some v → sum_by (λ u. u.parts) (set xs i w) + v.parts ≡ sum_by (λ u. u.parts) xs + w.parts
parts_set xs i v w at = let r = get_at xs i v v at in
    ap (λ (u : View). sum_by (λ (y : View). y.parts) (set xs i w) + u.parts) (sym r.1) ∙ sum_by-set (λ (u : View). u.parts) xs i w v r.0

pub published_at : (xs : List View) (i : ℕ) (v : View) → get_elem? xs i ≡ some v → v.published ≤ greatest xs
published_at [] i v at = absurd (some-ne-none v (sym at))
published_at (x ∷ xs) zero v at = let e : x.published ≡ v.published = ap (λ (u : View). u.published) (some-injective x v at) in omega arith
published_at (x ∷ xs) (suc i) v at = let r = published_at xs i v at in omega arith

-- a seat that has published more than before raises the greatest so far
pub greatest_set : (xs : List View) (i : ℕ) (v w : View) → get_elem? xs i ≡ some v → v.published ≤ w.published → greatest (set xs i w) ≡ max (greatest xs) w.published
greatest_set [] i v w at more = absurd (some-ne-none v (sym at))
greatest_set (x ∷ xs) zero v w at more = let e : x.published ≡ v.published = ap (λ (u : View). u.published) (some-injective x v at) in omega arith
greatest_set (x ∷ xs) (suc i) v w at more = let r = greatest_set xs i v w at more in omega arith

pub greatest_push : (xs : List View) (v : View) → greatest (xs ++ v ∷ []) ≡ max (greatest xs) v.published
greatest_push [] v = omega arith
greatest_push (x ∷ xs) v = let r = greatest_push xs v in omega arith

cleared : (xs : List View) (i : ℕ) (u : View) → get_elem? xs i ≡ some u → max u.published (greatest (set xs i spent)) ≡ greatest xs
cleared [] i u at = absurd (some-ne-none u (sym at))
cleared (x ∷ xs) zero u at = let e : x.published ≡ u.published = ap (λ (y : View). y.published) (some-injective x u at) in omega arith
cleared (x ∷ xs) (suc i) u at = let r = cleared xs i u at in omega arith

-- a seat that another outdoes may go
pub greatest_clear : (xs : List View) (i j : ℕ) (a u : View) → get_elem? xs i ≡ some a → get_elem? xs j ≡ some u → j ≢ i → u.published ≤ a.published → greatest (set xs j spent) ≡ greatest xs
greatest_clear [] i j a u at here apart less = absurd (some-ne-none a (sym at))
greatest_clear (x ∷ xs) zero zero a u at here apart less = absurd (apart refl)
greatest_clear (x ∷ xs) zero (suc j) a u at here apart less =
    let e : x.published ≡ a.published = ap (λ (y : View). y.published) (some-injective x a at) in let r = cleared xs j u here in omega arith
greatest_clear (x ∷ xs) (suc i) zero a u at here apart less =
    let e : x.published ≡ u.published = ap (λ (y : View). y.published) (some-injective x u here) in let r = published_at xs i a at in omega arith
greatest_clear (x ∷ xs) (suc i) (suc j) a u at here apart less =
    let r = greatest_clear xs i j a u at here (λ e. apart (ap suc e)) less in omega arith
