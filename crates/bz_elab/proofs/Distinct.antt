-- The places of a net are different, so each has one number.
use Rattle.std.proofs.Common.{◌≡◌, ℕ, zero, suc, ◌+◌, ◌-◌, ◌≤◌, true, false, None, Some, List, [], ◌∷◌, ◌++◌, length, map, ◌⊎◌, inl, inr, refl, sym, ◌∙◌, ap, subst, arith, append_assoc, length-append, slice_get, bytes_eq}
use Rattle.std.specs.List.{flat_map, position_from}
use Rattle.std.proofs.lemmas.Grind.{flat_map-append}
use Rattle.std.proofs.lemmas.Bool.Decides.{eqb_tells}
use Rattle.std.proofs.lemmas.Slice.Eq.{bytes_eq-Decides}
use Rattle.std.proofs.lemmas.List.{append_cancel_right}
use Rattle.bz_breeze_records.specs.declared.part.Part.{Part}
use Rattle.bz_breeze_records.specs.declared.part.Component.{Component}
use Rattle.bz_flat.specs.declared.flat.FlatComp.{FlatComp}
use Rattle.bz_elab.specs.Entries.{arranged}
use Rattle.bz_flat.specs.Flats.{site_of}
use Rattle.bz_elab.specs.Paths.{Path, Place, Stop, copy, leaf, named, each_from, visit, walk, stops, own_places, places_from, all_places, joined, is_place, one_more, number_in, leaf_site, own_sites, leaf_role, kind_in, most_instances, chans_at}
use Rattle.bz_elab.specs.Growth.{IsNumber, AreNumbers, IsLeaf, AreLeaves}
use Rattle.bz_elab.specs.Walks.{Has, Differ}

abbrev place : Path → ℕ → Place
place path number = record { path = path; number = number }

pub has_cases : {X : Type 0} (xs ys : List X) (x : X) → Has (xs ++ ys) x → Has xs x ⊎ Has ys x
has_cases [] ys x h = inr h
has_cases (z ∷ zs) ys x (inl e) = inl (inl e)
has_cases (z ∷ zs) ys x (inr h) = elim (has_cases zs ys x h) [ inl a ↦ inl (inr a) | inr b ↦ inr b ]

differ-append : {X : Type 0} (xs ys : List X) → Differ xs → Differ ys → ((x : X) → Has xs x → Has ys x → ⊥) → Differ (xs ++ ys)
differ-append [] ys a b apart = b
differ-append (x ∷ xs) ys a b apart =
    (λ h. elim (has_cases xs ys x h) [ inl k ↦ a.0 k | inr k ↦ apart x (inl refl) k ], differ-append xs ys a.1 b (λ z p q. apart z (inr p) q))

has_get : {X : Type 0} (xs : List X) (i : ℕ) (x : X) → slice_get xs i ≡ Some x → Has xs x
has_get [] i x e = absurd (cc)
has_get (y ∷ ys) zero x e = inl (cc)
has_get (y ∷ ys) (suc i) x e = inr (has_get ys i x e)

-- Places below a path.

places_here : (path : Path) (c n : ℕ) (p : Place) → Has (places_from path c n) p → (p.path ≡ path) × (c ≤ p.number)
places_here path c zero p h = absurd h
places_here path c (suc n) p (inl e) = (ap (λ (q : Place). q.path) (sym e), let n : c ≡ p.number = ap (λ (q : Place). q.number) e in omega arith)
places_here path c (suc n) p (inr h) = let k = places_here path (suc c) n p h in (k.0, let m = k.1 in omega arith)

places_differ : (path : Path) (c n : ℕ) → Differ (places_from path c n)
places_differ path c zero = tt
places_differ path c (suc n) = (λ h. let k = places_here path (suc c) n (record { path = path; number = c }) h in let m = k.1 in omega arith, places_differ path (suc c) n)

-- a path goes on from another one
abbrev pub Extends : Path → Path → Type 0
Extends path q = (xs : Path) × (q ≡ xs ++ path)

-- it goes on by component i or a later one
abbrev pub ExtendsFrom : ℕ → Path → Path → Type 0
ExtendsFrom i path q = (xs : Path) × (j : ℕ) × (i ≤ j) × (q ≡ xs ++ j ∷ path)

nothing_below : (path : Path) (c : Component) (p : Place) → Has (flat_map own_places (leaf path c ∷ [])) p → ⊥
nothing_below path c p h = h

below_visit : (parts : List Part) (n : ℕ) (path : Path) (i : ℕ) (c : Component) (p : Place) → ((up : Path) (part : Part) → Has (flat_map own_places (walk parts n up part)) p → Extends up p.path)
    → Has (flat_map own_places (visit parts path (walk parts n) i c)) p → Extends (i ∷ path) p.path
below_visit parts n path i c p go h = elim (named parts c.name.items) as (λ o. named parts c.name.items ≡ o → Extends (i ∷ path) p.path) [
  | None ↦ λ e. absurd (nothing_below path c p (rw (e, visit) at h))
  | Some part ↦ λ e. go (i ∷ path) part (rw (e, visit) at h)
] refl

below_each : (parts : List Part) (n : ℕ) (path : Path) (i : ℕ) (cs : List Component) (p : Place) → ((up : Path) (part : Part) → Has (flat_map own_places (walk parts n up part)) p → Extends up p.path)
    → Has (flat_map own_places (each_from i (visit parts path (walk parts n)) cs)) p → ExtendsFrom i path p.path
below_each parts n path i [] p go h = absurd h
below_each parts n path i (c ∷ cs) p go h =
    let V : ℕ → Component → List Stop = visit parts path (walk parts n) in
    elim (has_cases (flat_map own_places (V i c)) (flat_map own_places (each_from (suc i) V cs)) p (subst (λ (ps : List Place). Has ps p) (flat_map-append own_places (V i c) (each_from (suc i) V cs)) h)) [
      | inl a ↦ let (xs, e) = below_visit parts n path i c p go a in (xs, i, omega arith, e)
      | inr b ↦ let (xs, j, le, e) = below_each parts n path (suc i) cs p go b in (xs, j, omega arith, e)
    ]

below_walk : (parts : List Part) (n : ℕ) (p : Place) (path : Path) (part : Part) → Has (flat_map own_places (walk parts n path part)) p → Extends path p.path
below_walk parts zero p path part h = absurd h
below_walk parts (suc n) p path part h =
    let rest = each_from 1 (visit parts path (walk parts n)) part.components.items in
    elim (has_cases (own_places (copy path part)) (flat_map own_places rest) p h) [
      | inl a ↦ ([], (places_here path _ _ p a).0)
      | inr b ↦ let (xs, j, le, e) = below_each parts n path 1 part.components.items p (below_walk parts n p) b in (xs ++ j ∷ [], e ∙ sym (append_assoc xs (j ∷ []) path))
    ]

last_same : (xs ys : List ℕ) (i j : ℕ) → xs ++ i ∷ [] ≡ ys ++ j ∷ [] → i ≡ j
last_same [] [] i j e = cc
last_same [] (y ∷ ys) i j e = absurd (let n = ap length e ∙ ap suc (length-append ys (j ∷ [])) in omega (arith, n))
last_same (x ∷ xs) [] i j e = absurd (let n = ap length (sym e) ∙ ap suc (length-append xs (i ∷ [])) in omega (arith, n))
last_same (x ∷ xs) (y ∷ ys) i j e = last_same xs ys i j (cc)

branch_same : (path xs ys : Path) (i j : ℕ) → xs ++ i ∷ path ≡ ys ++ j ∷ path → i ≡ j
branch_same path xs ys i j e =
    last_same xs ys i j (append_cancel_right (xs ++ i ∷ []) (ys ++ j ∷ []) path (append_assoc xs (i ∷ []) path ∙ (e ∙ sym (append_assoc ys (j ∷ []) path))))

each_differ : (parts : List Part) (n : ℕ) (path : Path) (i : ℕ) (cs : List Component) → ((up : Path) (part : Part) → Differ (flat_map own_places (walk parts n up part)))
    → Differ (flat_map own_places (each_from i (visit parts path (walk parts n)) cs))
each_differ parts n path i [] go = tt
each_differ parts n path i (c ∷ cs) go =
    let V : ℕ → Component → List Stop = visit parts path (walk parts n) in
    let here : Differ (flat_map own_places (V i c)) = elim (named parts c.name.items) as (λ o. named parts c.name.items ≡ o → Differ (flat_map own_places (V i c))) [
      | None ↦ λ e. rw (e, visit) tt
      | Some part ↦ λ e. rw (e, visit) (go (i ∷ path) part)
    ] refl in
    let apart : (p : Place) → Has (flat_map own_places (V i c)) p → Has (flat_map own_places (each_from (suc i) V cs)) p → ⊥ = λ p a b.
    let (xs, e) = below_visit parts n path i c p (below_walk parts n p) a in
    let (ys, j, le, f) = below_each parts n path (suc i) cs p (below_walk parts n p) b in
    let same = branch_same path xs ys i j (sym e ∙ f) in
    omega (arith, same, le) in
    subst (λ (ps : List Place). Differ ps) (sym (flat_map-append own_places (V i c) (each_from (suc i) V cs)))
    (differ-append (flat_map own_places (V i c)) (flat_map own_places (each_from (suc i) V cs)) here (each_differ parts n path (suc i) cs go) apart)

walk_differ : (parts : List Part) (n : ℕ) (path : Path) (part : Part) → Differ (flat_map own_places (walk parts n path part))
walk_differ parts zero path part = tt
walk_differ parts (suc n) path part =
    let own = own_places (copy path part) in
    let rest = flat_map own_places (each_from 1 (visit parts path (walk parts n)) part.components.items) in
    differ-append own rest (places_differ path _ _) (each_differ parts n path 1 part.components.items (walk_differ parts n))
    (λ p a b.
    let at = (places_here path _ _ p a).0 in
    let (xs, j, le, e) = below_each parts n path 1 part.components.items p (below_walk parts n p) b in
    let k = ap length (sym at ∙ e) ∙ length-append xs (j ∷ path) in
    omega (arith, k))

-- the places of a net
pub places_are_different : (parts : List Part) (top : Part) → Differ (all_places parts top)
unfolding stops
places_are_different parts top = walk_differ parts (suc most_instances) [] top

-- Numbers.

place_is : (path path' : Path) (n n' : ℕ) → path ≡ path' → n ≡ n' → place path n ≡ place path' n'
place_is path path' n n' e f = ap (λ x. place x n) e ∙ ap (λ x. place path' x) f

same_place : (p : Place) → is_place p p ≡ true
same_place p = let a = (bytes_eq-Decides p.path p.path).1 refl in elim (eqb_tells p.number p.number) [
  | inl h ↦ rw (a, h.0) refl
  | inr h ↦ absurd (h.1 refl)
]

other_place : (p q : Place) → (q ≡ p → ⊥) → is_place p q ≡ false
other_place p q apart = elim (bytes_eq p.path q.path) as (λ b. bytes_eq p.path q.path ≡ b → is_place p q ≡ false) [
  | false ↦ λ e. rw e refl
  | true ↦ λ e. elim (eqb_tells p.number q.number) [
    | inl h ↦ let path = (bytes_eq-Decides p.path q.path).0 e in absurd (apart (place_is q.path p.path q.number p.number (sym path) (sym h.1)))
    | inr h ↦ rw (e, h.0) refl
  ]
] refl

position_at : (places : List Place) (p : Place) (k i : ℕ) → Differ places → slice_get places i ≡ Some p → position_from (is_place p) k places ≡ Some (k + i)
position_at [] p k i d e = absurd (cc)
position_at (q ∷ qs) p k zero d e =
    let same : q ≡ p = cc in
    let n : k + 0 ≡ k = omega arith in
    rw (same, same_place p, n) refl
position_at (q ∷ qs) p k (suc i) d e =
    let other = other_place p q (λ f. d.0 (subst (λ (r : Place). Has qs r) (sym f) (has_get qs i p e))) in
    let n : (k + 1) + i ≡ k + suc i = omega arith in
    rw other (position_at qs p (k + 1) i d.1 e ∙ ap (λ j. Some j) n)

pub number_is : (places : List Place) (p : Place) (k : ℕ) → Differ places → IsNumber places p k → number_in places p ≡ k
number_is places p k d (from, at) = let n : suc (0 + (k - 1)) ≡ k = omega arith in ap one_more (position_at places p 0 (k - 1) d at) ∙ n

pub numbers_are : (places : List Place) (place : ℕ → Place) (es ks : List ℕ) → Differ places → AreNumbers places (map place es) ks → ks ≡ map (λ e. number_in places (place e)) es
numbers_are places place [] [] d h = refl
numbers_are places place [] (k ∷ ks) d h = absurd h
numbers_are places place (e ∷ es) [] d h = absurd h
numbers_are places place (e ∷ es) (k ∷ ks) d h =
    ap (λ n. n ∷ ks) (sym (number_is places (place e) k d h.0)) ∙ ap (λ ns. number_in places (place e) ∷ ns) (numbers_are places place es ks d h.1)

site_is : (parts : List Part) (top : Part) (places : List Place) (path : Path) (c : Component) (f : FlatComp) → Differ places → IsLeaf parts top places path c f → site_of f ≡ leaf_site parts top places path c
site_is parts top places path c f d is =
    let k : kind_in (leaf_role c) ≡ f.kind = ap kind_in is.role_is in
    let ks = numbers_are places (joined parts top path) (arranged f.kind (chans_at parts top path) c.entries.items) f.chans.items d is.chans in
    rw (k, is.sizes_are, ← ks) refl

-- the components of a net are those of its leaves
pub sites_are : (parts : List Part) (top : Part) (places : List Place) (ss : List Stop) (fs : List FlatComp) → Differ places → AreLeaves parts top places ss fs
    → map site_of fs ≡ flat_map (own_sites parts top places) ss
sites_are parts top places [] [] d h = refl
sites_are parts top places [] (f ∷ fs) d h = absurd h
sites_are parts top places (copy path part ∷ ss) fs d h = sites_are parts top places ss fs d h
sites_are parts top places (leaf path c ∷ ss) [] d h = absurd h
sites_are parts top places (leaf path c ∷ ss) (f ∷ fs) d h =
    ap (λ s. s ∷ map site_of fs) (site_is parts top places path c f d h.0) ∙ ap (λ xs. leaf_site parts top places path c ∷ xs) (sites_are parts top places ss fs d h.1)
