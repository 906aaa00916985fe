-- The walk of a net goes by rising paths.
use Rattle.std.proofs.Common.{◌≡◌, ℕ, zero, suc, ◌+◌, None, Some, List, [], ◌∷◌, ◌++◌, inl, inr, refl, sym, ◌∙◌, arith, append_assoc, slice_get}
use Rattle.bz_breeze_records.specs.declared.part.Part.{Part}
use Rattle.bz_breeze_records.specs.declared.part.Component.{Component}
use Rattle.bz_elab.specs.Paths.{Path, Stop, named, component, copied, each_from, visit, walk, stops, most_instances}
use Rattle.bz_elab.specs.Walks.{Has, Before, Rises, StandAt, MeetsInOrder}
use Rattle.bz_elab.proofs.Distinct.{Extends, ExtendsFrom, has_cases}
use Rattle.bz_elab.proofs.Growing.{copied_inner}

-- The paths of the stops, in the order of the walk.

abbrev visit_paths : List Part → Path → (Path → Part → List Path) → ℕ → Component → List Path
visit_paths parts path go i c = elim (named parts c.name.items) [ None ↦ (i ∷ path) ∷ [] | Some p ↦ go (i ∷ path) p ]

abbrev walk_paths : List Part → ℕ → Path → Part → List Path
walk_paths parts zero path part = []
walk_paths parts (suc n) path part = path ∷ each_from 1 (visit_paths parts path (walk_paths parts n)) part.components.items

-- Where the stops stand.

stand_append : (parts : List Part) (top : Part) (ss ts : List Stop) (ps qs : List Path) → StandAt parts top ss ps → StandAt parts top ts qs → StandAt parts top (ss ++ ts) (ps ++ qs)
stand_append parts top [] ts [] qs a b = b
stand_append parts top [] ts (p ∷ ps) qs a b = absurd a
stand_append parts top (s ∷ ss) ts [] qs a b = absurd a
stand_append parts top (s ∷ ss) ts (p ∷ ps) qs a b = (a.0, stand_append parts top ss ts ps qs a.1 b)

each_stand : (parts : List Part) (top part : Part) (path : Path) (n i : ℕ) (cs : List Component) → copied parts top path ≡ Some part
    → ((up : Path) (q : Part) → copied parts top up ≡ Some q → StandAt parts top (walk parts n up q) (walk_paths parts n up q))
    → ((j : ℕ) (x : Component) → slice_get cs j ≡ Some x → component part (i + j) ≡ Some x)
    → StandAt parts top (each_from i (visit parts path (walk parts n)) cs) (each_from i (visit_paths parts path (walk_paths parts n)) cs)
each_stand parts top part path n i [] at go has = tt
each_stand parts top part path n i (c ∷ cs) at go has =
    let V : ℕ → Component → List Stop = visit parts path (walk parts n) in
    let P : ℕ → Component → List Path = visit_paths parts path (walk_paths parts n) in
    let z : i + 0 ≡ i = omega arith in
    let first : component part i ≡ Some c = rw z at (has 0 c refl) in
    let here : StandAt parts top (V i c) (P i c) = elim (named parts c.name.items) as (λ o. named parts c.name.items ≡ o → StandAt parts top (V i c) (P i c)) [
      | None ↦ λ e. rw (e, visit, visit_paths) ((i, part, refl, at, first), tt)
      | Some q ↦ λ e. rw (e, visit, visit_paths) (go (i ∷ path) q (copied_inner parts top part q path i c at first e))
    ] refl in
    let rest = each_stand parts top part path n (suc i) cs at go (λ j x e. let s : suc i + j ≡ i + suc j = omega arith in rw s (has (suc j) x e)) in
    stand_append parts top (V i c) (each_from (suc i) V cs) (P i c) (each_from (suc i) P cs) here rest

walk_stands : (parts : List Part) (top : Part) (n : ℕ) (path : Path) (part : Part) → copied parts top path ≡ Some part → StandAt parts top (walk parts n path part) (walk_paths parts n path part)
walk_stands parts top zero path part at = tt
walk_stands parts top (suc n) path part at = (
  (refl, at),
  each_stand parts top part path n 1 part.components.items at (walk_stands parts top n) (λ j x e. let s : 1 + j ≡ suc j = omega arith in rw s e),
)

-- Their order.

visit_extends : (parts : List Part) (n : ℕ) (path : Path) (i : ℕ) (c : Component) (p : Path) → ((up : Path) (part : Part) → Has (walk_paths parts n up part) p → Extends up p)
    → Has (visit_paths parts path (walk_paths parts n) i c) p → Extends (i ∷ path) p
visit_extends parts n path i c p go h = elim (named parts c.name.items) as (λ o. named parts c.name.items ≡ o → Extends (i ∷ path) p) [
  | None ↦ λ e. elim (rw (e, visit_paths) at h) [ inl same ↦ ([], sym same) | inr none ↦ absurd none ]
  | Some part ↦ λ e. go (i ∷ path) part (rw (e, visit_paths) at h)
] refl

each_extends : (parts : List Part) (n : ℕ) (path : Path) (i : ℕ) (cs : List Component) (p : Path) → ((up : Path) (part : Part) → Has (walk_paths parts n up part) p → Extends up p)
    → Has (each_from i (visit_paths parts path (walk_paths parts n)) cs) p → ExtendsFrom i path p
each_extends parts n path i [] p go h = absurd h
each_extends parts n path i (c ∷ cs) p go h =
    let P : ℕ → Component → List Path = visit_paths parts path (walk_paths parts n) in
    elim (has_cases (P i c) (each_from (suc i) P cs) p h) [
      | inl a ↦ let (xs, e) = visit_extends parts n path i c p go a in (xs, i, omega arith, e)
      | inr b ↦ let (xs, j, le, e) = each_extends parts n path (suc i) cs p go b in (xs, j, omega arith, e)
    ]

walk_extends : (parts : List Part) (n : ℕ) (p : Path) (path : Path) (part : Part) → Has (walk_paths parts n path part) p → Extends path p
walk_extends parts zero p path part h = absurd h
walk_extends parts (suc n) p path part (inl e) = ([], sym e)
walk_extends parts (suc n) p path part (inr h) =
    let (xs, j, le, e) = each_extends parts n path 1 part.components.items p (walk_extends parts n p) h in
    (xs ++ j ∷ [], e ∙ sym (append_assoc xs (j ∷ []) path))

rises_append : (ps qs : List Path) → Rises ps → Rises qs → ((p q : Path) → Has ps p → Has qs q → Before p q) → Rises (ps ++ qs)
rises_append [] qs a b apart = b
rises_append (p ∷ ps) qs a b apart =
    (λ q h. elim (has_cases ps qs q h) [ inl x ↦ a.0 q x | inr y ↦ apart p q (inl refl) y ], rises_append ps qs a.1 b (λ r q x y. apart r q (inr x) y))

each_rises : (parts : List Part) (n : ℕ) (path : Path) (i : ℕ) (cs : List Component) → ((up : Path) (part : Part) → Rises (walk_paths parts n up part))
    → Rises (each_from i (visit_paths parts path (walk_paths parts n)) cs)
each_rises parts n path i [] go = tt
each_rises parts n path i (c ∷ cs) go =
    let P : ℕ → Component → List Path = visit_paths parts path (walk_paths parts n) in
    let here : Rises (P i c) = elim (named parts c.name.items) as (λ o. named parts c.name.items ≡ o → Rises (P i c)) [
      | None ↦ λ e. rw (e, visit_paths) (λ q h. absurd h, tt)
      | Some part ↦ λ e. rw (e, visit_paths) (go (i ∷ path) part)
    ] refl in
    rises_append (P i c) (each_from (suc i) P cs) here (each_rises parts n path (suc i) cs go) (λ p q a b.
    let (xs, e) = visit_extends parts n path i c p (walk_extends parts n p) a in
    let (ys, j, le, f) = each_extends parts n path (suc i) cs q (walk_extends parts n q) b in
    inr (path, xs, ys, i, j, omega (arith, le), e, f))

walk_rises : (parts : List Part) (n : ℕ) (path : Path) (part : Part) → Rises (walk_paths parts n path part)
walk_rises parts zero path part = tt
walk_rises parts (suc n) path part = (
  λ q h. let (xs, j, le, e) = each_extends parts n path 1 part.components.items q (walk_extends parts n q) h in inl (xs, j, e),
  each_rises parts n path 1 part.components.items (walk_rises parts n),
)

pub stops_rise : (parts : List Part) (top : Part) → MeetsInOrder parts top
unfolding stops
stops_rise parts top = (
  walk_paths parts (suc most_instances) [] top,
  walk_stands parts top (suc most_instances) [] top refl,
  walk_rises parts (suc most_instances) [] top,
)
