-- The walk of a net goes through each copy as through the part alone.
use Rattle.std.proofs.Common.{◌≡◌, ℕ, zero, suc, ◌+◌, ◌-◌, ◌<◌, ◌≤◌, ◌⊎◌, inl, inr, Option, None, Some, List, [], ◌∷◌, ◌++◌, length, map, take, drop, refl, sym, ◌∙◌, ap, subst, arith, append_assoc, length-append, slice_get, option_and_then}
use Rattle.std.specs.Prelude.{nat_le, if◌then◌else◌}
use Rattle.std.proofs.lemmas.Bool.Decides.{leb_tells}
use Rattle.std.proofs.lemmas.List.{append-nil, append_cancel_right, length-take-le, map-append}
use Rattle.std.proofs.lemmas.Option.{slice_get_within, get_or_from_slice_get}
use Rattle.bz_breeze_records.specs.declared.part.Part.{Part}
use Rattle.bz_breeze_records.specs.declared.part.Component.{Component}
use Rattle.bz_elab.specs.Paths.{Path, Place, Stop, copy, leaf, named, component, inner, copied, actual, entry_of, port_count, joined, each_from, visit, walk, stops, most_instances}
use Rattle.bz_elab.specs.Growth.{IsShort}
use Rattle.bz_elab.specs.Walks.{Has}
use Rattle.bz_elab.proofs.Counting.{each_from-split}
use Rattle.bz_elab.proofs.Distinct.{Extends, has_cases}
use Rattle.bz_elab.proofs.Meeting.{inner_comp, outer_copy}
use Rattle.bz_elab.proofs.Soundness.{copied-first}

-- what is met in the part alone, as it is in the copy at a path
abbrev pub within : Path → Stop → Stop
within at (copy path part) = copy (path ++ at) part
within at (leaf path c) = leaf (path ++ at) c

abbrev pub lifted : Path → Place → Place
lifted at p = record { path = p.path ++ at; number = p.number }

-- ---- copies and channels below one

module _ (parts : List Part) (top part : Part) (at : Path) (e : copied parts top at ≡ Some part) where
  pub copied-below : (q : Path) → copied parts top (q ++ at) ≡ copied parts part q
  copied-below [] = e
  copied-below (i ∷ q) = ap (option_and_then (λ p. inner parts p i)) (copied-below q)

  actual-below : (q : Path) (i c : ℕ) → actual parts top (q ++ at) i c ≡ actual parts part q i c
  actual-below q i c = ap (λ o. entry_of (option_and_then (λ p. component p i) o) c) (copied-below q)

  -- where a channel of the part alone is, it is in the copy, and from there where that comes to
  abbrev on-from : Place → Place
  on-from p = joined parts top (p.path ++ at) p.number

  abbrev here : Path → ℕ → ℕ → Place
  here q i c = record { path = i ∷ q; number = c }

  pub joined-below : (q : Path) (c : ℕ) → joined parts top (q ++ at) c ≡ joined parts top ((joined parts part q c).path ++ at) (joined parts part q c).number
  joined-below [] c = refl
  joined-below (i ∷ q) c =
      let n = port_count (copied parts part (i ∷ q)) in
      let up : ℕ = actual parts part q i c in
      let same : port_count (copied parts top (i ∷ q ++ at)) ≡ n = ap port_count (copied-below (i ∷ q)) in
      elim (leb_tells c n) [
        | inl h ↦
            ap (λ m. if nat_le c m then joined parts top (q ++ at) (actual parts top (q ++ at) i c) else here (q ++ at) i c) same
            ∙ ap (λ b. if b then joined parts top (q ++ at) (actual parts top (q ++ at) i c) else here (q ++ at) i c) h.0
            ∙ ap (joined parts top (q ++ at)) (actual-below q i c)
            ∙ joined-below q up
            ∙ sym (ap (λ b. on-from (if b then joined parts part q up else here q i c)) h.0)
        | inr h ↦ sym (ap (λ b. on-from (if b then joined parts part q up else here q i c)) h.0)
      ]

-- ---- the walk of a copy is that of the part alone

none-left : {X : Type 0} (x : X) (o : Option X) → o ≡ None → o ≡ Some x → ⊥
none-left x o none some = cc

short-below : (parts : List Part) (part p : Part) (i d : ℕ) → IsShort parts part d → inner parts part i ≡ Some p → (0 < d) × IsShort parts p (d - 1)
short-below parts part p i d short is =
    let one : 1 ≤ d = short (i ∷ []) p is in (
      one,
      λ below q at.
          let whole : copied parts part (below ++ i ∷ []) ≡ Some q = copied-first parts part below i ∙ ap (option_and_then (λ r. copied parts r below)) is ∙ at in
          let long = short (below ++ i ∷ []) q whole in
          let len = length-append below (i ∷ []) in
          omega (arith, long, len),
    )

inner-of : (parts : List Part) (part p : Part) (i : ℕ) (c : Component) → component part i ≡ Some c → named parts c.name.items ≡ Some p → inner parts part i ≡ Some p
inner-of parts part p i c has name = ap (option_and_then (λ x. named parts x.name.items)) has ∙ name

module _ (parts : List Part) (at : Path) where
  -- of one component after another, where it holds of those below
  module _ (n m : ℕ) (q : Path) (part : Part) (go : (i : ℕ) (p : Part) → inner parts part i ≡ Some p → walk parts n (i ∷ q ++ at) p ≡ map (within at) (walk parts m (i ∷ q) p)) where
    visit-within : (i : ℕ) (c : Component) → component part i ≡ Some c → visit parts (q ++ at) (walk parts n) i c ≡ map (within at) (visit parts q (walk parts m) i c)
    visit-within i c has = elim (named parts c.name.items) as (λ o. named parts c.name.items ≡ o → visit parts (q ++ at) (walk parts n) i c ≡ map (within at) (visit parts q (walk parts m) i c)) [
      | None ↦ λ e. rw (e, visit) refl
      | Some p ↦ λ e. rw (e, visit) (go i p (inner-of parts part p i c has e))
    ] refl

    each-within : (i : ℕ) (cs : List Component) → ((j k : ℕ) (c : Component) → k ≡ i + j → slice_get cs j ≡ Some c → component part k ≡ Some c)
        → each_from i (visit parts (q ++ at) (walk parts n)) cs ≡ map (within at) (each_from i (visit parts q (walk parts m)) cs)
    each-within i [] all = refl
    each-within i (c ∷ cs) all =
        let one = visit-within i c (all 0 i c (omega arith) refl) in
        let more = each-within (suc i) cs (λ j k d is got. all (suc j) k d (omega (arith, is)) got) in
        ap (λ xs. xs ++ each_from (suc i) (visit parts (q ++ at) (walk parts n)) cs) one
        ∙ ap (λ xs. map (within at) (visit parts q (walk parts m) i c) ++ xs) more
        ∙ sym (map-append (within at) (visit parts q (walk parts m) i c) (each_from (suc i) (visit parts q (walk parts m)) cs))

  pub walk-within : (n m d : ℕ) (q : Path) (part : Part) → d < n → d < m → IsShort parts part d → walk parts n (q ++ at) part ≡ map (within at) (walk parts m q part)
  walk-within zero m d q part lt ml short = absurd (omega (arith, lt))
  walk-within (suc n) zero d q part lt ml short = absurd (omega (arith, ml))
  walk-within (suc n) (suc m) d q part lt ml short =
      ap (λ xs. copy (q ++ at) part ∷ xs) (each-within n m q part
      (λ i p is.
      let (pos, less) = short-below parts part p i d short is in
      walk-within n m (d - 1) (i ∷ q) p (omega (arith, pos, lt)) (omega (arith, pos, ml)) less)
      1 part.components.items
      (λ j k c is got. let same : k ≡ suc j = omega (arith, is) in ap (component part) same ∙ got))

-- ---- what is met elsewhere

-- no component of a copy at or below the path is there
abbrev pub IsClear : Path → List Stop → Type 0
IsClear at ss = (r : Path) (c : Component) → Has ss (leaf r c) → Extends at r → ⊥

clear-append : (at : Path) (xs ys : List Stop) → IsClear at xs → IsClear at ys → IsClear at (xs ++ ys)
clear-append at xs ys a b r c h ext = elim (has_cases xs ys (leaf r c) h) [ inl g ↦ a r c g ext | inr g ↦ b r c g ext ]

leaf-path : (p q : Path) (c d : Component) → leaf p c ≡ leaf q d → p ≡ q
leaf-path p q c d e = cc

last-same : (xs ys : List ℕ) (i j : ℕ) → xs ++ i ∷ [] ≡ ys ++ j ∷ [] → i ≡ j
last-same [] [] i j e = cc
last-same [] (y ∷ ys) i j e = absurd (let n = ap length e ∙ ap suc (length-append ys (j ∷ [])) in omega (arith, n))
last-same (x ∷ xs) [] i j e = absurd (let n = ap length (sym e) ∙ ap suc (length-append xs (i ∷ [])) in omega (arith, n))
last-same (x ∷ xs) (y ∷ ys) i j e = last-same xs ys i j (cc)

branch-same : (path xs ys : Path) (i j : ℕ) → xs ++ i ∷ path ≡ ys ++ j ∷ path → i ≡ j
branch-same path xs ys i j e =
    last-same xs ys i j (append_cancel_right (xs ++ i ∷ []) (ys ++ j ∷ []) path (append_assoc xs (i ∷ []) path ∙ (e ∙ sym (append_assoc ys (j ∷ []) path))))

pub longer : (xs : Path) (i : ℕ) (up : Path) → xs ++ i ∷ up ≡ up → ⊥
longer xs i up e = let n = sym (length-append xs (i ∷ up)) ∙ ap length e in omega (arith, n)

-- what a visit of component i meets is in the copy itself, or goes on by i
module _ (parts : List Part) where
  abbrev Below : Path → ℕ → Path → Type 0
  Below path i r = (r ≡ path) ⊎ ((xs : Path) × (r ≡ xs ++ i ∷ path))

  abbrev BelowFrom : Path → ℕ → ℕ → Path → Type 0
  BelowFrom path i n r = (r ≡ path) ⊎ ((xs : Path) × (j : ℕ) × (i ≤ j) × (j < i + n) × (r ≡ xs ++ j ∷ path))

  met-visit : (n : ℕ) (path : Path) (i : ℕ) (c : Component) (r : Path) (d : Component) → ((up : Path) (p : Part) → Has (walk parts n up p) (leaf r d) → Extends up r)
      → Has (visit parts path (walk parts n) i c) (leaf r d) → Below path i r
  met-visit n path i c r d go h = elim (named parts c.name.items) as (λ o. named parts c.name.items ≡ o → Below path i r) [
    | None ↦ λ e. alone (rw (e, visit) at h)
    | Some p ↦ λ e. inr (go (i ∷ path) p (rw (e, visit) at h))
  ] refl
    where
      alone : Has (leaf path c ∷ []) (leaf r d) → Below path i r
      alone (inl e) = inl (leaf-path r path d c (sym e))
      alone (inr none) = absurd none

  met-each : (n : ℕ) (path : Path) (i : ℕ) (cs : List Component) (r : Path) (d : Component) → ((up : Path) (p : Part) → Has (walk parts n up p) (leaf r d) → Extends up r)
      → Has (each_from i (visit parts path (walk parts n)) cs) (leaf r d) → BelowFrom path i (length cs) r
  met-each n path i [] r d go h = absurd h
  met-each n path i (c ∷ cs) r d go h =
      elim (has_cases (visit parts path (walk parts n) i c) (each_from (suc i) (visit parts path (walk parts n)) cs) (leaf r d) h) [
        | inl a ↦ elim (met-visit n path i c r d go a) [
          | inl e ↦ inl e
          | inr (xs, e) ↦ inr (xs, i, omega arith, omega arith, e)
        ]
        | inr b ↦ elim (met-each n path (suc i) cs r d go b) [
          | inl e ↦ inl e
          | inr (xs, j, le, lt, e) ↦ inr (xs, j, omega (arith, le), omega (arith, lt), e)
        ]
      ]

  met-walk : (n : ℕ) (r : Path) (d : Component) (path : Path) (part : Part) → Has (walk parts n path part) (leaf r d) → Extends path r
  met-walk zero r d path part h = absurd h
  met-walk (suc n) r d path part (inl e) = absurd (cc)
  met-walk (suc n) r d path part (inr h) = elim (met-each n path 1 part.components.items r d (met-walk n r d) h) [
    | inl e ↦ ([], e)
    | inr (xs, j, le, lt, e) ↦ (xs ++ j ∷ [], e ∙ sym (append_assoc xs (j ∷ []) path))
  ]

  -- the components before the one at i, and those after it, lie elsewhere
  clear-each : (n : ℕ) (path : Path) (i k : ℕ) (cs : List Component) → (k + length cs ≤ i) ⊎ (i < k) → IsClear (i ∷ path) (each_from k (visit parts path (walk parts n)) cs)
  clear-each n path i k cs off r d h (ys, ext) = elim (met-each n path k cs r d (met-walk n r d) h) [
    | inl e ↦ longer ys i path (sym ext ∙ e)
    | inr (xs, j, le, lt, e) ↦
        let same = branch-same path ys xs i j (sym ext ∙ e) in
        elim off [
          | inl before ↦ omega (arith, same, lt, before)
          | inr after ↦ omega (arith, same, le, after)
        ]
  ]

-- ---- the walk is cut where the copy is

pub record Cut (parts : List Part) (top : Part) (at : Path) (inside : List Stop) : Type 0 where
  pub before : List Stop
  pub after : List Stop
  pub is : stops parts top ≡ before ++ (inside ++ after)
  pub clear_before : IsClear at before
  pub clear_after : IsClear at after

extends-more : (i : ℕ) (up r : Path) → Extends (i ∷ up) r → Extends up r
extends-more i up r (xs, e) = (xs ++ i ∷ [], e ∙ sym (append_assoc xs (i ∷ []) up))

regroup : (b : List Stop) (s : Stop) (x w y a : List Stop) → b ++ ((s ∷ (x ++ (w ++ y))) ++ a) ≡ (b ++ s ∷ x) ++ (w ++ (y ++ a))
regroup b s x w y a =
    ap (λ zs. b ++ s ∷ zs) (append_assoc x (w ++ y) a ∙ ap (λ zs. x ++ zs) (append_assoc w y a))
    ∙ sym (append_assoc b (s ∷ x) (w ++ (y ++ a)))

module _ (parts : List Part) (top : Part) where
  cut-inner : (i : ℕ) (up : Path) (q part : Part) (n : ℕ) → inner parts q i ≡ Some part → Cut parts top up (walk parts (suc n) up q) → Cut parts top (i ∷ up) (walk parts n (i ∷ up) part)
  cut-inner zero up q part n is c = absurd (cc)
  cut-inner (suc j) up q part n is c =
      let items = q.components.items in
      let V : ℕ → Component → List Stop = visit parts up (walk parts n) in
      let (x, has, name) = inner_comp parts q (suc j) part is in
      let lt = slice_get_within items j x has in
      let split = each_from-split V items j x lt (sym (get_or_from_slice_get items j x x has)) in
      let inside : V (suc j) x ≡ walk parts n (suc j ∷ up) part = rw (name, visit) refl in
      let front = each_from 1 V (take j items) in
      let back = each_from (suc (suc j)) V (drop (j + 1) items) in
      let taken : length (take j items) ≡ j = length-take-le j items (omega (arith, lt)) in
      record {
        before = c.before ++ copy up q ∷ front;
        after = back ++ c.after;
        is = c.is ∙ ap (λ zs. c.before ++ ((copy up q ∷ zs) ++ c.after)) (split ∙ ap (λ zs. front ++ (zs ++ back)) inside)
            ∙ regroup c.before (copy up q) front (walk parts n (suc j ∷ up) part) back c.after;
        clear_before = clear-append (suc j ∷ up) c.before (copy up q ∷ front) (λ r d h ext. c.clear_before r d h (extends-more (suc j) up r ext))
            (clear-append (suc j ∷ up) (copy up q ∷ []) front (λ r d h ext. no-copy r d h) (clear-each parts n up (suc j) 1 (take j items) (inl (omega (arith, taken)))));
        clear_after = clear-append (suc j ∷ up) back c.after (clear-each parts n up (suc j) (suc (suc j)) (drop (j + 1) items) (inr (omega arith)))
            (λ r d h ext. c.clear_after r d h (extends-more (suc j) up r ext));
      }
    where
      no-copy : (r : Path) (d : Component) → Has (copy up q ∷ []) (leaf r d) → ⊥
      no-copy r d (inl e) = absurd (cc)
      no-copy r d (inr none) = none

  pub cut-walk : (at : Path) (part : Part) (n : ℕ) → copied parts top at ≡ Some part → n + length at ≡ suc most_instances → Cut parts top at (walk parts n at part)
  unfolding stops
  cut-walk [] part n e len =
      let same : top ≡ part = cc in
      let fuel : n ≡ suc most_instances = omega (arith, len) in
      record {
        before = [];
        after = [];
        is = (λ i. walk parts (sym fuel i) [] (same i)) ∙ sym (append-nil (walk parts n [] part));
        clear_before = λ r d h ext. h;
        clear_after = λ r d h ext. h;
      }
  cut-walk (i ∷ up) part n e len =
      let (q, outer, inside) = outer_copy parts top i up part e in
      cut-inner i up q part n inside (cut-walk up q (suc n) outer (omega (arith, len)))

  -- the walk of the net goes through the copy at a path as through the part alone
  pub cut-copy : (at : Path) (part : Part) → copied parts top at ≡ Some part → IsShort parts top most_instances → Cut parts top at (map (within at) (stops parts part))
  unfolding stops
  cut-copy at part e short =
      let len = short at part e in
      let n : ℕ = suc most_instances - length at in
      let d : ℕ = most_instances - length at in
      let less : IsShort parts part d = λ below q is.
      let long = short (below ++ at) q (copied-below parts top part at e below ∙ is) in
      let sum = length-append below at in
      omega (arith, long, sum) in
      let same = walk-within parts at n (suc most_instances) d [] part (omega (arith, len)) (omega arith) less in
      subst (Cut parts top at) same (cut-walk at part n e (omega (arith, len)))
