-- Subsequences, and lists of views read by `get_elem?`.
use Rattle.std.proofs.Common.{◌≡◌, ◌≢◌, ℕ, zero, suc, ◌+◌, ◌<◌, List, [], ◌∷◌, ◌++◌, length, get_or, set, sym, refl, ap, ◌∙◌, subst, inl, inr, ⊎_elim, arith}
use mathlib.Core.Option.{some, some-injective, some-ne-none}
use lib.ListN.{get_elem?}
use Rattle.std.specs.List.{sum_by}
use Rattle.std.proofs.lemmas.List.Sums.{sum_by-set}
use Rattle.crossbeam_deque.proofs.Lists.{at_set}
use Rattle.bz_pool_hints.specs.Hints.{IsSubsequence}

pub sub_more : (xs ys zs : List ℕ) → IsSubsequence xs ys → IsSubsequence xs (ys ++ zs)
sub_more [] ys zs h = tt
sub_more (x ∷ xs) [] zs h = absurd h
sub_more (x ∷ xs) (y ∷ ys) zs h = ⊎_elim (λ (e : (x ≡ y) × IsSubsequence xs ys). inl (e.0, sub_more xs ys zs e.1)) (λ (e : IsSubsequence (x ∷ xs) ys). inr (sub_more (x ∷ xs) ys zs e)) h

sub_skip : (zs : List ℕ) (y : ℕ) (ys : List ℕ) → IsSubsequence zs ys → IsSubsequence zs (y ∷ ys)
sub_skip [] y ys h = tt
sub_skip (z ∷ zs) y ys h = inr h

sub_self : (zs : List ℕ) → IsSubsequence zs zs
sub_self [] = tt
sub_self (z ∷ zs) = inl (refl, sub_self zs)

pub sub_append : (xs ys zs : List ℕ) → IsSubsequence xs ys → IsSubsequence (xs ++ zs) (ys ++ zs)
sub_append [] [] zs h = sub_self zs
sub_append [] (y ∷ ys) zs h = sub_skip zs y (ys ++ zs) (sub_append [] ys zs tt)
sub_append (x ∷ xs) [] zs h = absurd h
sub_append (x ∷ xs) (y ∷ ys) zs h = ⊎_elim (λ (e : (x ≡ y) × IsSubsequence xs ys). inl (e.0, sub_append xs ys zs e.1)) (λ (e : IsSubsequence (x ∷ xs) ys). inr (sub_append (x ∷ xs) ys zs e)) h

module _ {A : Type 0} where
  pub get_at : (xs : List A) (i : ℕ) (a d : A) → get_elem? xs i ≡ some a → (i < length xs) × (get_or xs i d ≡ a)
  get_at [] i a d e = absurd (some-ne-none a (sym e))
  get_at (x ∷ xs) zero a d e = (omega arith, some-injective x a e)
  get_at (x ∷ xs) (suc i) a d e = let r = get_at xs i a d e in (omega (arith, r.0), r.1)

  pub sum_set : (f : A → ℕ) (xs : List A) (i : ℕ) (v w : A) → get_elem? xs i ≡ some v → sum_by f (set xs i w) + f v ≡ sum_by f xs + f w
  sum_set f xs i v w at = let r = get_at xs i v v at in ap (λ (u : A). sum_by f (set xs i w) + f u) (sym r.1) ∙ sum_by-set f xs i w v r.0

  pub all_set : (F : ℕ → A → Type 0) (xs : List A) (i : ℕ) (w : A) → F i w → ((j : ℕ) (u : A) → j ≢ i → get_elem? xs j ≡ some u → F j u) → (j : ℕ) (u : A) → get_elem? (set xs i w) j ≡ some u → F j u
  all_set F xs i w mine others j u e = ⊎_elim (λ (x : (j ≡ i) × (w ≡ u)). subst (λ (y : ℕ × A). F y.0 y.1) (λ k. (sym x.0 k, x.1 k)) mine)
      (λ (x : (j ≢ i) × (get_elem? xs j ≡ some u)). others j u x.0 x.1) (at_set xs i j w u e)
