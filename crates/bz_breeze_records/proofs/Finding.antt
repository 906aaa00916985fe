-- Where an element stands that is looked for.
use Rattle.std.proofs.Common.{◌≡◌, ◌<◌, ℕ, zero, suc, Bool, true, false, cond, List, [], ◌∷◌, All, None, Some, length, bytes_eq, position, slice_get, find, nat_lt, arith, refl, ap, ◌∙◌}
use Rattle.std.proofs.lemmas.Bool.{ltb-false, le-ltb}
use Rattle.std.proofs.lemmas.Slice.Eq.{bytes_eq-Decides}
use Rattle.std.proofs.lemmas.List.Folds.{find_at}
use Rattle.std.proofs.lemmas.Option.{slice_get_past}
use Rattle.std.specs.List.{position_or_len}
use Rattle.bz_breeze_records.specs.declared.part.Part.{Part}
use Rattle.bz_breeze_records.specs.Parts.{has_dollar}

module _ {X : Type 0} (p : X → Bool) (xs : List X) where
  -- the first element that passes stands at the place that is found
  pub find-at_place : (i : ℕ) → position p xs ≡ Some i → find p xs ≡ slice_get xs i
  find-at_place i e = find_at p xs ∙ ap (λ k. slice_get xs k) (by (nat_lt (position_or_len p xs) (length xs)) (position_or_len p xs) e)
    where
      by : (b : Bool) (k : ℕ) → cond b (Some k) None ≡ Some i → k ≡ i
      by true k h = cc
      by false k h = cc

  -- and where none is found, none passes
  pub find-no_place : position p xs ≡ None → find p xs ≡ None
  find-no_place e = find_at p xs ∙ slice_get_past xs (position_or_len p xs) (ltb-false _ _ (by (nat_lt (position_or_len p xs) (length xs)) e))
    where
      by : (b : Bool) → cond b (Some (position_or_len p xs)) None ≡ None → b ≡ false
      by true h = cc
      by false h = refl

-- a name with a dollar sign isn't one without
other_name : (name other : List ℕ) → has_dollar name ≡ true → has_dollar other ≡ false → bytes_eq name other ≡ false
other_name name other here there = elim (bytes_eq name other) as (λ b. bytes_eq name other ≡ b → b ≡ false) [
  | true ↦ λ e. let same : name ≡ other = (bytes_eq-Decides name other).0 e in let clash = rw same at here in cc
  | false ↦ λ e. refl
] refl

past_plain : (name : List ℕ) (ps : List Part) → has_dollar name ≡ true → All (λ p. has_dollar p.name.items ≡ false) ps → position_or_len (λ p. bytes_eq name p.name.items) ps ≡ length ps
past_plain name [] here plain = refl
past_plain name (p ∷ ps) here plain =
    let other = other_name name p.name.items here (plain 0 p (omega arith)) in
    let rest = past_plain name ps here (λ k d lt. plain (suc k) d (omega (arith, lt))) in
    rw (other, rest) (omega arith)

-- so where no part's name has one, no part has that name
pub none_plain : (name : List ℕ) (ps : List Part) → has_dollar name ≡ true → All (λ p. has_dollar p.name.items ≡ false) ps → position (λ p. bytes_eq name p.name.items) ps ≡ None
none_plain name ps here plain = rw (past_plain name ps here plain, le-ltb (length ps) (length ps) (omega arith)) refl
