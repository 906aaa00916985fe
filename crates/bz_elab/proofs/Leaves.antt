-- The walk of a net meets each leaf.
use Rattle.std.proofs.Common.{◌≡◌, ℕ, zero, suc, ◌+◌, ◌≤◌, None, Some, List, [], ◌∷◌, ◌++◌, length, inl, inr, refl, sym, ◌∙◌, ap, subst, arith, append_assoc, length-append, slice_get, option_and_then}
use Rattle.std.proofs.lemmas.List.{append-nil}
use Rattle.bz_breeze_records.specs.declared.part.Part.{Part}
use Rattle.bz_breeze_records.specs.declared.part.Component.{Component}
use Rattle.bz_elab.specs.Paths.{Path, Stop, leaf, named, component, inner, copied, each_from, visit, walk, stops, most_instances}
use Rattle.bz_elab.specs.Walks.{Has, MeetsLeaves}
use Rattle.bz_elab.proofs.Soundness.{copied-first, last_of}

has_left : {X : Type 0} (xs ys : List X) (x : X) → Has xs x → Has (xs ++ ys) x
has_left [] ys x h = absurd h
has_left (z ∷ zs) ys x (inl e) = inl e
has_left (z ∷ zs) ys x (inr h) = inr (has_left zs ys x h)

has_right : {X : Type 0} (xs ys : List X) (x : X) → Has ys x → Has (xs ++ ys) x
has_right [] ys x h = h
has_right (z ∷ zs) ys x h = inr (has_right zs ys x h)

both : {X : Type 0} {x y : X} → Some x ≡ Some y → x ≡ y
both e = cc

has_each : {A B : Type 0} (f : ℕ → A → List B) (k : ℕ) (xs : List A) (j : ℕ) (x : A) (b : B) → slice_get xs j ≡ Some x → Has (f (k + j) x) b → Has (each_from k f xs) b
has_each f k [] j x b e h = cc
has_each f k (y ∷ ys) zero x b e h =
    let n : k + 0 ≡ k = omega arith in
    let same : x ≡ y = both (sym e) in
    has_left (f k y) (each_from (suc k) f ys) b (rw (n, same) at h)
has_each f k (y ∷ ys) (suc j) x b e h =
    let n : k + suc j ≡ suc k + j = omega arith in
    has_right (f k y) (each_from (suc k) f ys) b (has_each f (suc k) ys j x b e (rw n at h))

-- a component of the copy where the walk begins, or what lies below it
has_below : (parts : List Part) (m : ℕ) (path : Path) (p : Part) (i : ℕ) (c : Component) (s : Stop) → component p i ≡ Some c → Has (visit parts path (walk parts m) i c) s → Has (walk parts (suc m) path p) s
has_below parts m path p zero c s e h = cc
has_below parts m path p (suc j) c s e h = let n : suc j ≡ 1 + j = omega arith in inr (has_each (visit parts path (walk parts m)) 1 p.components.items j c s e (rw n at h))

first_component : (parts : List Part) (p q : Part) (k : ℕ) → inner parts p k ≡ Some q → (x : Component) × (component p k ≡ Some x) × (named parts x.name.items ≡ Some q)
first_component parts p q k e = elim (component p k) as (λ o. component p k ≡ o → option_and_then (λ c. named parts c.name.items) o ≡ Some q → (x : Component) × (component p k ≡ Some x) × (named parts x.name.items ≡ Some q)) [
  | None ↦ λ f g. cc
  | Some x ↦ λ f g. (x, f, g)
] refl e

-- a leaf of the copy where the walk begins
leaf_here : (parts : List Part) (m : ℕ) (path below : Path) (p q : Part) (i : ℕ) (c : Component) → below ≡ [] → copied parts p below ≡ Some q → component q i ≡ Some c → named parts c.name.items ≡ None
    → Has (walk parts (suc m) path p) (leaf (below ++ path) c)
leaf_here parts m path below p q i c h at has none =
    let same : p ≡ q = both (subst (λ (xs : Path). copied parts p xs ≡ Some q) h at) in
    rw (h, same) (has_below parts m path q i c (leaf path c) has (rw (none, visit) (inl refl)))

leaf_met : (parts : List Part) (m : ℕ) (path below : Path) (p q : Part) (i : ℕ) (c : Component) → copied parts p below ≡ Some q → component q i ≡ Some c → named parts c.name.items ≡ None → length below ≤ m
    → Has (walk parts (suc m) path p) (leaf (below ++ path) c)
leaf_met parts zero path below p q i c at has none le = elim (last_of below) [
  | inl h ↦ leaf_here parts zero path below p q i c h at has none
  | inr (ys, k, h) ↦ absurd (let n = ap length h ∙ length-append ys (k ∷ []) in omega (arith, n, le))
]
leaf_met parts (suc n) path below p q i c at has none le = elim (last_of below) [
  | inl h ↦ leaf_here parts (suc n) path below p q i c h at has none
  | inr (ys, k, h) ↦
      let len = ap length h ∙ length-append ys (k ∷ []) in
      let split = sym (copied-first parts p ys k) ∙ subst (λ (xs : Path). copied parts p xs ≡ Some q) h at in
      let whole : below ++ path ≡ ys ++ k ∷ path = ap (λ xs. xs ++ path) h ∙ append_assoc ys (k ∷ []) path in
      elim (inner parts p k) as (λ o. inner parts p k ≡ o → option_and_then (λ r. copied parts r ys) o ≡ Some q → Has (walk parts (suc (suc n)) path p) (leaf (below ++ path) c)) [
        | None ↦ λ f g. cc
        | Some r ↦ λ f g.
            let (x, x_has, x_is) = first_component parts p r k f in
            let inside = leaf_met parts n (k ∷ path) ys r q i c g has none (omega (arith, len, le)) in
            rw whole (has_below parts (suc n) path p k x (leaf (ys ++ k ∷ path) c) x_has (rw (x_is, visit) inside))
      ] refl split
]

pub leaves_are_met : (parts : List Part) (top : Part) → MeetsLeaves parts top
unfolding stops
leaves_are_met parts top path part i c at has none le = rw (← append-nil path) (leaf_met parts most_instances [] path top part i c at has none le)
