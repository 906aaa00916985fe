-- Parts at paths, and components at their positions.
use Rattle.std.proofs.Common.{◌≡◌, ℕ, zero, suc, ◌<◌, ◌≤◌, Option, None, Some, List, [], ◌∷◌, ◌++◌, length, ◌⊎◌, inl, inr, refl, ◌∙◌, ap, arith, get_or, slice_get, option_and_then}
use Rattle.std.proofs.lemmas.Option.{slice_get_read, slice_get_within}
use Rattle.bz_breeze_records.specs.declared.part.Part.{Part}
use Rattle.bz_breeze_records.specs.declared.part.Component.{Component}
use Rattle.bz_elab.specs.Paths.{Path, component, inner, copied}

pub part_at : (parts : List Part) (n : ℕ) → n < length parts → (p : Part) × (slice_get parts n ≡ Some p)
part_at [] n lt = absurd (omega arith)
part_at (p ∷ ps) zero lt = (p, refl)
part_at (p ∷ ps) (suc n) lt = part_at ps n (omega arith)

pub part_read : (parts list : List Part) (n : ℕ) (p : Part) → list ≡ parts → n < length parts → p ≡ get_or list n p → slice_get parts n ≡ Some p
part_read parts list n p same lt is = slice_get_read parts (length parts) n p refl lt (rw same at is)

pub same_some : {X : Type 0} {o : Option X} {x y : X} → o ≡ Some x → o ≡ Some y → y ≡ x
same_some e f = cc

-- the first instance on a path, and the rest of it
and_then-Some : {X : Type 0} (o : Option X) → o ≡ option_and_then (λ x. Some x) o
and_then-Some None = refl
and_then-Some (Some x) = refl

and_then-and_then : {X Y Z : Type 0} (f : X → Option Y) (g : Y → Option Z) (o : Option X) → option_and_then g (option_and_then f o) ≡ option_and_then (λ x. option_and_then g (f x)) o
and_then-and_then f g None = refl
and_then-and_then f g (Some x) = refl

pub copied-first : (parts : List Part) (part : Part) (below : Path) (k : ℕ) → copied parts part (below ++ k ∷ []) ≡ option_and_then (λ p. copied parts p below) (inner parts part k)
copied-first parts part [] k = and_then-Some (inner parts part k)
copied-first parts part (i ∷ up) k =
    ap (option_and_then (λ p. inner parts p i)) (copied-first parts part up k) ∙ and_then-and_then (λ p. copied parts p up) (λ p. inner parts p i) (inner parts part k)

pub last_of : (xs : List ℕ) → (xs ≡ []) ⊎ ((ys : List ℕ) × (k : ℕ) × (xs ≡ ys ++ k ∷ []))
last_of [] = inl refl
last_of (x ∷ xs) = elim (last_of xs) [
  | inl e ↦ inr ([], x, ap (λ zs. x ∷ zs) e)
  | inr (ys, k, e) ↦ inr (x ∷ ys, k, ap (λ zs. x ∷ zs) e)
]

pub inner_within : (parts : List Part) (part : Part) (k : ℕ) (p : Part) → inner parts part k ≡ Some p → k ≤ length part.components.items
inner_within parts part zero p e = omega arith
inner_within parts part (suc i) p e = elim (slice_get part.components.items i) as (λ o. slice_get part.components.items i ≡ o → suc i ≤ length part.components.items) [
  | None ↦ λ f. let no = rw f at e in cc
  | Some c ↦ λ f. let w = slice_get_within part.components.items i c f in omega arith
] refl

pub component_within : (part : Part) (k : ℕ) (c : Component) → component part k ≡ Some c → k ≤ length part.components.items
component_within part zero c e = omega arith
component_within part (suc i) c e = let w = slice_get_within part.components.items i c e in omega arith
