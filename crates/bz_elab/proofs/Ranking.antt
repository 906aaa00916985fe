-- Parts that cannot reach themselves, by their ranks.
use Rattle.std.proofs.Common.{◌≡◌, ℕ, zero, suc, ◌+◌, ◌<◌, ◌≤◌, ◌⊎◌, inl, inr, Option, None, Some, List, [], ◌∷◌, ◌++◌, length, refl, sym, subst, arith, slice_get, IfSome}
use Rattle.std.proofs.lemmas.Bool.Decides.{eqb_tells}
use Rattle.bz_breeze_records.specs.declared.part.Part.{Part}
use Rattle.bz_breeze_records.specs.declared.part.Component.{Component}
use Rattle.bz_elab.specs.Paths.{Path}
use Rattle.bz_elab.specs.Numbers.{number_named, inner_number, number_at, IsBelow, rank_at, IsHighest, Falls, NeverRise}

below_falls : (parts : List Part) (ranks : List ℕ) (n : ℕ) → NeverRise parts ranks → Falls parts ranks n → (up : Path) (i m : ℕ) → number_at parts n (i ∷ up) ≡ Some m → rank_at ranks m < rank_at ranks n
below_falls parts ranks n never falls [] i m e = falls i m e
below_falls parts ranks n never falls (j ∷ up) i m e = elim (number_at parts n (j ∷ up)) as (λ o. number_at parts n (j ∷ up) ≡ o → rank_at ranks m < rank_at ranks n) [
  | None ↦ λ f. let g = rw f at e in cc
  | Some w ↦ λ f.
      let lt = below_falls parts ranks n never falls up j w f in
      let le = never w i m (rw f at e) in
      omega (arith, lt, le)
] refl

-- a part that is ranked higher than all that it has instances of is not below itself
pub not_below : (parts : List Part) (ranks : List ℕ) (n : ℕ) → NeverRise parts ranks → Falls parts ranks n → IsBelow parts n n → ⊥
not_below parts ranks n never falls (i, up, e) = let lt = below_falls parts ranks n never falls up i n e in omega (arith, lt)

-- an instance of part n is one of its components
inner_item : (parts : List Part) (n k m : ℕ) (p : Part) → slice_get parts n ≡ Some p → inner_number parts n k ≡ Some m → (i : ℕ) × (c : Component) × (slice_get p.components.items i ≡ Some c) × (number_named parts c.name.items ≡ Some m)
inner_item parts n zero m p at e = let g = rw at at e in cc
inner_item parts n (suc i) m p at e = elim (slice_get p.components.items i) as (λ o. slice_get p.components.items i ≡ o → (i : ℕ) × (c : Component) × (slice_get p.components.items i ≡ Some c) × (number_named parts c.name.items ≡ Some m)) [
  | None ↦ λ f. let g = rw (at, f) at e in cc
  | Some c ↦ λ f. (i, c, f, rw (at, f) at e)
] refl

pub falls_none : (parts : List Part) (ranks : List ℕ) (n : ℕ) (p : Part) (o : Option ℕ) → slice_get parts n ≡ Some p → IsHighest parts ranks p.components.items o → o ≡ None → Falls parts ranks n
falls_none parts ranks n p None at high e = λ k m is. let (i, c, here, name) = inner_item parts n k m p at is in absurd (high i c m here name)
falls_none parts ranks n p (Some h) at high e = cc

pub falls_some : (parts : List Part) (ranks : List ℕ) (n : ℕ) (p : Part) (o : Option ℕ) (h : ℕ) → slice_get parts n ≡ Some p → IsHighest parts ranks p.components.items o → o ≡ Some h → h < rank_at ranks n → Falls parts ranks n
falls_some parts ranks n p None h at high e lt = cc
falls_some parts ranks n p (Some g) h at high e lt = λ k m is.
    let (i, c, here, name) = inner_item parts n k m p at is in
    let le = high i c m here name in
    let same : g ≡ h = cc in
    omega (arith, le, same, lt)

-- the first parts have no instance of a part that is ranked higher
abbrev pub NoneRise : List Part → List ℕ → ℕ → Type 0
NoneRise parts ranks n = (j k m : ℕ) → j < n → inner_number parts j k ≡ Some m → rank_at ranks m ≤ rank_at ranks j

pub rise_next : (parts : List Part) (ranks : List ℕ) (n : ℕ) (p : Part) (o : Option ℕ) → slice_get parts n ≡ Some p → IsHighest parts ranks p.components.items o → ((h : ℕ) → o ≡ Some h → h ≤ rank_at ranks n)
    → NoneRise parts ranks n → NoneRise parts ranks (n + 1)
rise_next parts ranks n p None at high le before j k m lt is = elim (eqb_tells j n) [
  | inl e ↦ let (i, c, here, name) = inner_item parts n k m p at (subst (λ (x : ℕ). inner_number parts x k ≡ Some m) e.1 is) in absurd (high i c m here name)
  | inr d ↦ before j k m (omega (arith, lt, d.1)) is
]
rise_next parts ranks n p (Some h) at high le before j k m lt is = elim (eqb_tells j n) [
  | inl e ↦
      let (i, c, here, name) = inner_item parts n k m p at (subst (λ (x : ℕ). inner_number parts x k ≡ Some m) e.1 is) in
      let a = high i c m here name in
      let b = le h refl in
      subst (λ (x : ℕ). rank_at ranks m ≤ rank_at ranks x) (sym e.1) (omega (arith, a, b))
  | inr d ↦ before j k m (omega (arith, lt, d.1)) is
]

past_none : (parts : List Part) (j k m : ℕ) → inner_number parts j k ≡ Some m → j < length parts
past_none [] j k m e = cc
past_none (p ∷ ps) zero k m e = omega arith
past_none (p ∷ ps) (suc j) k m e = elim (slice_get ps j) as (λ o. slice_get ps j ≡ o → suc j < length (p ∷ ps)) [
  | None ↦ λ f. let g = rw f at e in cc
  | Some q ↦ λ f. let w = within ps j q f in omega (arith, w)
] refl
  where
    within : (xs : List Part) (j : ℕ) (q : Part) → slice_get xs j ≡ Some q → j < length xs
    within [] j q e = cc
    within (x ∷ xs) zero q e = omega arith
    within (x ∷ xs) (suc j) q e = let w = within xs j q e in omega (arith, w)

pub rise_all : (parts : List Part) (ranks : List ℕ) (n : ℕ) → length parts ≤ n → NoneRise parts ranks n → NeverRise parts ranks
rise_all parts ranks n le none j k m is = let w = past_none parts j k m is in none j k m (omega (arith, w, le)) is

-- As the components of a part are gone through.

get_before : (xs : List Component) (x c : Component) (k : ℕ) → k < length xs → slice_get (xs ++ x ∷ []) k ≡ Some c → slice_get xs k ≡ Some c
get_before [] x c k lt e = absurd (omega arith)
get_before (y ∷ ys) x c zero lt e = e
get_before (y ∷ ys) x c (suc k) lt e = get_before ys x c k (omega arith) e

get_last : (xs : List Component) (x c : Component) (k : ℕ) → slice_get (xs ++ x ∷ []) k ≡ Some c → (k < length xs) ⊎ (c ≡ x)
get_last [] x c zero e = inr cc
get_last [] x c (suc k) e = cc
get_last (y ∷ ys) x c zero e = inl (omega arith)
get_last (y ∷ ys) x c (suc k) e = elim (get_last ys x c k e) [ inl lt ↦ inl (omega (arith, lt)) | inr same ↦ inr same ]

pub highest_same : (parts : List Part) (ranks : List ℕ) (cs : List Component) (x : Component) (o : Option ℕ) → number_named parts x.name.items ≡ None → IsHighest parts ranks cs o → IsHighest parts ranks (cs ++ x ∷ []) o
highest_same parts ranks cs x None none h = λ k c m at name. elim (get_last cs x c k at) [
  | inl lt ↦ h k c m (get_before cs x c k lt at) name
  | inr same ↦ let clash = rw (same, none) at name in cc
]
highest_same parts ranks cs x (Some b) none h = λ k c m at name. elim (get_last cs x c k at) [
  | inl lt ↦ h k c m (get_before cs x c k lt at) name
  | inr same ↦ let clash = rw (same, none) at name in cc
]

-- what was found before is no higher
abbrev pub IsUpto : Option ℕ → ℕ → Type 0
IsUpto None h = Unit {0}
IsUpto (Some b) h = b ≤ h

pub highest_more : (parts : List Part) (ranks : List ℕ) (cs : List Component) (x : Component) (o : Option ℕ) (q h : ℕ) → number_named parts x.name.items ≡ Some q → rank_at ranks q ≤ h → IsUpto o h
    → IsHighest parts ranks cs o → IsHighest parts ranks (cs ++ x ∷ []) (Some h)
highest_more parts ranks cs x None q h some le upto high k c m at name = elim (get_last cs x c k at) [
  | inl lt ↦ absurd (high k c m (get_before cs x c k lt at) name)
  | inr same ↦ let it = rw (same, some) at name in let e : q ≡ m = cc in rw (← e) le
]
highest_more parts ranks cs x (Some b) q h some le upto high k c m at name = elim (get_last cs x c k at) [
  | inl lt ↦ let w = high k c m (get_before cs x c k lt at) name in omega (arith, w, upto)
  | inr same ↦ let it = rw (same, some) at name in let e : q ≡ m = cc in rw (← e) le
]

pub upto_if : (o : Option ℕ) (h : ℕ) → IfSome o (λ b. b ≤ h) → IsUpto o h
upto_if None h e = tt
upto_if (Some b) h e = e
