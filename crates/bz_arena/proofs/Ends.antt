-- A list in two parts, and what a change of one part does to the whole.
use Rattle.std.proofs.Common.{◌≡◌, ℕ, ◌-◌, ◌<◌, ◌≤◌, List, ◌++◌, length, get_or, set, sym, ap, ◌∙◌, arith}
use Rattle.std.proofs.lemmas.List.{get_or_append_left, get_or-append_right, set-append_left, set-append_right, length-append, length-set}

module _ {X : Type 0} (xs ys all : List X) (whole : xs ++ ys ≡ all) (n : ℕ) (len : n ≡ length xs) where
  pub get_front : (i : ℕ) (e : X) → i < n → get_or xs i e ≡ get_or all i e
  get_front i e lt = sym (get_or_append_left xs ys e i (omega (arith, len))) ∙ ap (λ (l : List X). get_or l i e) whole

  pub get_back : (i : ℕ) (e : X) → n ≤ i → get_or ys (i - n) e ≡ get_or all i e
  get_back i e le = sym (get_or-append_right xs ys n i e (sym len) le) ∙ ap (λ (l : List X). get_or l i e) whole

  pub set_front : (i : ℕ) (w : X) → i < n → set xs i w ++ ys ≡ set all i w
  set_front i w lt = sym (set-append_left xs ys i w (omega (arith, len))) ∙ ap (λ (l : List X). set l i w) whole

  pub set_back : (i : ℕ) (w : X) → n ≤ i → xs ++ set ys (i - n) w ≡ set all i w
  set_back i w le = sym (set-append_right xs ys n i w (sym len) le) ∙ ap (λ (l : List X). set l i w) whole

  pub back_in : (i : ℕ) → n ≤ i → i < length all → i - n < length ys
  back_in i le lt = omega (arith, len, length-append xs ys, ap length whole)

module _ {X : Type 0} (xs ys all : List X) (whole : xs ++ ys ≡ all) (n : ℕ) (len : n ≡ length xs) (i j : ℕ) (v w : X) where
  pub set_fronts : i < n → j < n → set (set xs i v) j w ++ ys ≡ set (set all i v) j w
  set_fronts il jl = set_front (set xs i v) ys (set all i v) (set_front xs ys all whole n len i v il) n (len ∙ sym (length-set xs i v)) j w jl

  pub set_backs : n ≤ i → n ≤ j → xs ++ set (set ys (i - n) v) (j - n) w ≡ set (set all i v) j w
  set_backs il jl = set_back xs (set ys (i - n) v) (set all i v) (set_back xs ys all whole n len i v il) n len j w jl

  pub set_front_back : i < n → n ≤ j → set xs i v ++ set ys (j - n) w ≡ set (set all i v) j w
  set_front_back il jl = set_back (set xs i v) ys (set all i v) (set_front xs ys all whole n len i v il) n (len ∙ sym (length-set xs i v)) j w jl

  pub set_back_front : n ≤ i → j < n → set xs j w ++ set ys (i - n) v ≡ set (set all i v) j w
  set_back_front il jl = set_front xs (set ys (i - n) v) (set all i v) (set_back xs ys all whole n len i v il) n len j w jl

pub at_ids : {X : Type 0} (all : List X) (i j a b : ℕ) (v w : X) → i ≡ a → j ≡ b → set (set all i v) j w ≡ set (set all a v) b w
at_ids all i j a b v w e f = ap (λ (k : ℕ). set (set all k v) j w) e ∙ ap (λ (k : ℕ). set (set all a v) k w) f
