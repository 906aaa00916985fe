-- Totals, as they add up.
use Rattle.std.proofs.Common.{◌≡◌, ℕ, zero, suc, ◌+◌, ◌-◌, ◌<◌, ◌≤◌, Option, None, Some, List, [], ◌∷◌, ◌++◌, length, drop, take, ◌⊎◌, inl, inr, refl, sym, ◌∙◌, ap, subst, arith, get_or, slice_get, slice_set, option_and_then, length-append, length-drop}
use Rattle.std.specs.List.{flat_map}
use Rattle.std.proofs.lemmas.Bool.Decides.{eqb_tells}
use Rattle.std.proofs.lemmas.List.{append-nil, length-take, length-set, get_or-set_same, get_or-set_other}
use Rattle.bz_breeze_records.specs.declared.part.Part.{Part}
use Rattle.bz_breeze_records.specs.declared.part.Component.{Component}
use Rattle.bz_elab.specs.declared.totals.Total.{Total}
use Rattle.std.proofs.lemmas.Grind.{flat_map-append}
use Rattle.bz_breeze_records.specs.declared.part.Slot.{Slot}
use Rattle.bz_elab.specs.Entries.{flattened, named_in}
use Rattle.bz_elab.specs.Paths.{Path, Stop, copy, leaf, named, component, inner, copied, each_from, visit, walk, own_chans}
use Rattle.bz_elab.specs.Refusals.{own_comps, own_ends, most_ends}
use Rattle.bz_flat.specs.Wires.{most_comps, most_chans}
use Rattle.bz_elab.specs.Growth.{IsBare, IsShort, below_copy}
use Rattle.bz_elab.specs.Totals.{Capped, Brings, IsSmall, IsTotal, IsDeeper, AreTotals, TellsBare, total_at}
use Rattle.bz_elab.proofs.Counting.{each_from-push, length-more}
use Rattle.bz_elab.proofs.Slots.{take_item}
use Rattle.bz_elab.proofs.Soundness.{part_at, copied-first, last_of, inner_within}
use Rattle.bz_elab.proofs.Growing.{component_at}

pub capped_is : (most t n m : ℕ) → n ≡ m → Capped most t n → Capped most t m
capped_is most t n m e c = subst (λ (k : ℕ). Capped most t k) e c

-- one component more
pub brings_leaf : (t u : Total) (stops : List Stop) (path : Path) (c : Component) → u.chans ≡ t.chans → Capped most_comps u.comps (length (flat_map own_comps stops) + 1)
    → Capped most_ends u.ends (length (flat_map own_ends stops) + length (flattened c.entries.items)) → Brings t stops → Brings u (stops ++ leaf path c ∷ [])
brings_leaf t u stops path c chans comps ends b = record {
  comps = capped_is most_comps u.comps _ _ (let a = length-more own_comps stops (leaf path c ∷ []) in omega (arith, a)) comps;
  chans = rw chans (capped_is most_chans t.chans _ _ (let a = length-more own_chans stops (leaf path c ∷ []) in omega (arith, a)) b.chans);
  ends = capped_is most_ends u.ends _ _ (let a = length-more own_ends stops (leaf path c ∷ []) in let e = ap length (append-nil (flattened c.entries.items)) in omega (arith, a, e)) ends;
}

-- one instance more
pub brings_copy : (u : Total) (stops more : List Stop) (i : ℕ) (path : Path) (p : Part) → Capped most_comps u.comps (length (flat_map own_comps stops) + length (flat_map own_comps more))
    → Capped most_chans u.chans ((length (flat_map own_chans stops) + (length p.channels.items - length p.ports.items)) + length (flat_map own_chans more))
    → Capped most_ends u.ends (length (flat_map own_ends stops) + length (flat_map own_ends more)) → Brings u (stops ++ copy (i ∷ path) p ∷ more)
brings_copy u stops more i path p comps chans ends =
    let first = copy (i ∷ path) p ∷ [] in
    let own : List Stop = copy (i ∷ path) p ∷ more in
    record {
      comps = capped_is most_comps u.comps _ _ (let a = length-more own_comps stops own in omega (arith, a)) comps;
      chans = capped_is most_chans u.chans _ _ (
          let a = length-more own_chans stops own in
          let b = length-append (drop (length p.ports.items) p.channels.items) (flat_map own_chans more) in
          let d = length-drop (length p.ports.items) p.channels.items in
          omega (arith, a, b, d)
          ) chans;
      ends = capped_is most_ends u.ends _ _ (let a = length-more own_ends stops own in omega (arith, a)) ends;
    }

-- the components up to one
pub record TotalUpTo (parts : List Part) (part : Part) (items : List Component) (n : ℕ) (t : Total) : Type 0 where
  pub short : (k : ℕ) (p : Part) (below : Path) (q : Part) → k ≤ n → inner parts part k ≡ Some p → copied parts p below ≡ Some q → length below + 1 ≤ t.height
  pub longest : (below : Path) × (q : Part) × (copied parts part below ≡ Some q) × (length below ≡ t.height)
  pub brings : (path : Path) (depth : ℕ) → t.height ≤ depth → Brings t (each_from 1 (visit parts path (walk parts depth)) (take n items))
  pub small : IsSmall t

pub total_start : (parts : List Part) (part : Part) (items : List Component) (t : Total) → t.height ≡ 0 → t.comps ≡ 0 → t.chans ≡ 0 → t.ends ≡ 0 → TotalUpTo parts part items 0 t
total_start parts part items t h c k e = record {
  short = λ i p below q le is. absurd (none i p le is);
  longest = ([], part, refl, omega (arith, h));
  brings = λ path depth le. record { comps = inl c; chans = inl k; ends = inl e };
  small = record { height = omega (arith, h); comps = omega (arith, c); chans = omega (arith, k); ends = omega (arith, e) };
}
  where
    none : (i : ℕ) (p : Part) → i ≤ 0 → inner parts part i ≡ Some p → ⊥
    none zero p le is = cc
    none (suc i) p le is = omega (arith, le)

each_more : (V : ℕ → Component → List Stop) (items : List Component) (i : ℕ) (x : Component) → i < length items → x ≡ get_or items i x
    → each_from 1 V (take (i + 1) items) ≡ each_from 1 V (take i items) ++ V (suc i) x
each_more V items i x lt is =
    let n : 1 + length (take i items) ≡ suc i = omega (arith, length-take i items) in
    ap (each_from 1 V) (take_item items i x lt is) ∙ (each_from-push 1 V (take i items) x ∙ ap (λ j. each_from 1 V (take i items) ++ V j x) n)

pub total_leaf : (parts : List Part) (part : Part) (items : List Component) (i : ℕ) (x : Component) (t u : Total) → TotalUpTo parts part items i t → i < length items → x ≡ get_or items i x
    → component part (suc i) ≡ Some x → named parts x.name.items ≡ None → u.height ≡ t.height → IsSmall u
    → ((stops : List Stop) (path : Path) → Brings t stops → Brings u (stops ++ leaf path x ∷ [])) → TotalUpTo parts part items (i + 1) u
total_leaf parts part items i x t u s lt is has none height small brings = record {
  short = λ k p below q le at e. elim (eqb_tells k (suc i)) [
    | inl h ↦ let there = subst (λ (j : ℕ). inner parts part j ≡ Some p) h.1 at in let no_part = rw (has, none) at there in cc
    | inr d ↦ let w = s.short k p below q (omega (arith, le, d.1)) at e in omega (arith, w, height)
  ];
  longest = let (below, q, e, len) = s.longest in (below, q, e, len ∙ sym height);
  brings = λ path depth le.
      let V : ℕ → Component → List Stop = visit parts path (walk parts depth) in
      let this : V (suc i) x ≡ leaf path x ∷ [] = rw (none, visit) refl in
      subst (λ (ss : List Stop). Brings u ss) (sym (each_more V items i x lt is ∙ ap (λ ss. each_from 1 V (take i items) ++ ss) this))
      (brings (each_from 1 V (take i items)) path (s.brings path depth (omega (arith, le, height))));
  small = small;
}

-- a part at a path of an instance
pub copied_below : (parts : List Part) (part p : Part) (k : ℕ) (below : Path) (q : Part) → inner parts part k ≡ Some p → copied parts p below ≡ Some q → copied parts part (below ++ k ∷ []) ≡ Some q
copied_below parts part p k below q at e = copied-first parts part below k ∙ rw at e

pub total_copy : (parts : List Part) (part : Part) (items : List Component) (i : ℕ) (x : Component) (r : Part) (t b u : Total) → TotalUpTo parts part items i t → i < length items → x ≡ get_or items i x
    → component part (suc i) ≡ Some x → named parts x.name.items ≡ Some r → IsTotal parts r b → t.height ≤ u.height → b.height + 1 ≤ u.height → (u.height ≡ t.height) ⊎ (u.height ≡ b.height + 1) → IsSmall u
    → ((stops more : List Stop) (i : ℕ) (path : Path) → Brings t stops → Brings b more → Brings u (stops ++ copy (i ∷ path) r ∷ more)) → TotalUpTo parts part items (i + 1) u
total_copy parts part items i x r t b u s lt is has some total from below_from height small brings = record {
  short = λ k p below q le at e. elim (eqb_tells k (suc i)) [
    | inl h ↦
        let there = rw has at (subst (λ (j : ℕ). inner parts part j ≡ Some p) h.1 at) in
        let same : p ≡ r = both some there in
        let w = total.short below q (subst (λ (y : Part). copied parts y below ≡ Some q) same e) in
        omega (arith, w, below_from)
    | inr d ↦ let w = s.short k p below q (omega (arith, le, d.1)) at e in omega (arith, w, from)
  ];
  longest = elim height [
    | inl h ↦ let (below, q, e, len) = s.longest in (below, q, e, len ∙ sym h)
    | inr h ↦
        let (below, q, e, len) = total.longest in
        let at : inner parts part (suc i) ≡ Some r = rw has some in
        (below ++ suc i ∷ [], q, copied_below parts part r (suc i) below q at e, let n = length-append below (suc i ∷ []) in omega (arith, n, len, h))
  ];
  brings = λ path depth le. step path depth le;
  small = small;
}
  where
    both : {X : Type 0} {o : Option X} {x y : X} → o ≡ Some x → o ≡ Some y → y ≡ x
    both e f = cc

    step : (path : Path) (depth : ℕ) → u.height ≤ depth → Brings u (each_from 1 (visit parts path (walk parts depth)) (take (i + 1) items))
    step path zero le = absurd (omega (arith, le, below_from))
    step path (suc m) le =
        let V : ℕ → Component → List Stop = visit parts path (walk parts (suc m)) in
        let this : V (suc i) x ≡ copy (suc i ∷ path) r ∷ below_copy parts (suc i ∷ path) m r = rw (some, visit) refl in
        subst (λ (ss : List Stop). Brings u ss) (sym (each_more V items i x lt is ∙ ap (λ ss. each_from 1 V (take i items) ++ ss) this))
        (brings (each_from 1 V (take i items)) (below_copy parts (suc i ∷ path) m r) (suc i) path (s.brings path (suc m) (omega (arith, le, from)))
        (total.brings (suc i ∷ path) m (omega (arith, le, below_from))))

-- all components
pub total_all : (parts : List Part) (part : Part) (n : ℕ) (t : Total) → TotalUpTo parts part part.components.items n t → length part.components.items ≤ n → IsTotal parts part t
total_all parts part n t s all = record {
  short = λ below q e. elim (last_of below) [
    | inl h ↦ let z = ap length h in omega (arith, z)
    | inr (ys, k, h) ↦
        let split = sym (copied-first parts part ys k) ∙ subst (λ (xs : Path). copied parts part xs ≡ Some q) h e in
        let m = ap length h ∙ length-append ys (k ∷ []) in
        elim (inner parts part k) as (λ o. inner parts part k ≡ o → option_and_then (λ p. copied parts p ys) o ≡ Some q → length below ≤ t.height) [
          | None ↦ λ f g. cc
          | Some p ↦ λ f g. let w = s.short k p ys q (let a = inner_within parts part k p f in omega (arith, a, all)) f g in omega (arith, w, m)
        ] refl split
  ];
  longest = s.longest;
  brings = λ path depth le.
      subst (λ (xs : List Component). Brings t (each_from 1 (visit parts path (walk parts depth)) xs)) (whole part.components.items n all) (s.brings path depth le);
  small = s.small;
}
  where
    whole : (xs : List Component) (n : ℕ) → length xs ≤ n → take n xs ≡ xs
    whole [] zero h = refl
    whole [] (suc n) h = refl
    whole (x ∷ xs) zero h = absurd (omega arith)
    whole (x ∷ xs) (suc n) h = ap (λ ys. x ∷ ys) (whole xs n (omega arith))

-- a total more in the table
pub totals_set : (parts : List Part) (totals : List (Option Total)) (n : ℕ) (p : Part) (t : Total) → AreTotals parts totals → slice_get parts n ≡ Some p → n < length parts → IsTotal parts p t
    → AreTotals parts (slice_set totals n (Some t))
totals_set parts totals n p t a at lt is = record {
  len = length-set totals n (Some t) ∙ a.len;
  are = λ m u q e f. elim (eqb_tells m n) [
    | inl h ↦
        let there = rw h.1 at f in
        let same : q ≡ p = both at there in
        let stands : total_at (slice_set totals n (Some t)) n ≡ Some t = get_or-set_same totals n (Some t) None (omega (arith, lt, a.len)) in
        let it : u ≡ t = both stands (rw h.1 at e) in
        rw (same, it) is
    | inr d ↦ a.are m u q (sym (get_or-set_other totals n m (Some t) None d.1) ∙ e) f
  ];
}
  where
    both : {X : Type 0} {o : Option X} {x y : X} → o ≡ Some x → o ≡ Some y → y ≡ x
    both e f = cc

pub deeper_inner : (parts : List Part) (part p : Part) (k depth : ℕ) → inner parts part k ≡ Some p → 0 < depth → IsDeeper parts p (depth - 1) → IsDeeper parts part depth
deeper_inner parts part p k depth at pos (below, q, e, lt) =
    (below ++ k ∷ [], q, copied_below parts part p k below q at e, let n = length-append below (k ∷ []) in omega (arith, n, lt, pos))

pub deeper_here : (parts : List Part) (part p : Part) (k : ℕ) → inner parts part k ≡ Some p → IsDeeper parts part 0
deeper_here parts part p k at = (k ∷ [], p, at, omega arith)

pub deeper_total : (parts : List Part) (part : Part) (t : Total) (depth : ℕ) → IsTotal parts part t → depth < t.height → IsDeeper parts part depth
deeper_total parts part t depth is lt = let (below, q, e, len) = is.longest in (below, q, e, omega (arith, len, lt))

no_items : {X : Type 0} (xs : List X) → length xs ≡ 0 → xs ≡ []
no_items [] e = refl
no_items (x ∷ xs) e = absurd (omega arith)

bare_below : (parts : List Part) (part : Part) (t : Total) (depth : ℕ) → IsTotal parts part t → t.height ≤ depth → t.comps ≡ 0 → t.chans ≡ 0 → (path : Path) → IsBare (below_copy parts path depth part)
bare_below parts part t depth is le no_comps no_chans path =
    let b = is.brings path depth le in
    record {
      comps = no_items (flat_map own_comps (below_copy parts path depth part)) (omega (arith, b.comps, no_comps));
      chans = no_items (flat_map own_chans (below_copy parts path depth part)) (omega (arith, b.chans, no_chans));
    }

-- what is told by the totals is so below each copy, if paths do not end before
pub empty_told : (parts : List Part) (totals : List (Option Total)) (n : ℕ) (part : Part) (most : ℕ) → AreTotals parts totals → slice_get parts n ≡ Some part → TellsBare most (total_at totals n)
    → (path : Path) (depth : ℕ) → IsShort parts part depth → IsBare (below_copy parts path depth part)
empty_told parts totals n part most are at told path depth short =
    elim (total_at totals n) as (λ o. total_at totals n ≡ o → TellsBare most o → IsBare (below_copy parts path depth part)) [
      | None ↦ λ e h. absurd h
      | Some t ↦ λ e h.
          let is = are.are n t part e at in
          let (below, q, there, len) = is.longest in
          let w = short below q there in
          bare_below parts part t depth is (omega (arith, w, len)) h.1 h.2 path
    ] refl told

pub entries_more : (entries : List Slot) (i : ℕ) (e : Slot) → i < length entries → e ≡ get_or entries i e
    → length (flattened (take (i + 1) entries)) ≡ length (flattened (take i entries)) + length (named_in e)
entries_more entries i e lt is =
    let a = ap flattened (take_item entries i e lt is) ∙ flat_map-append named_in (take i entries) (e ∷ []) in
    let b = ap length a ∙ length-append (flattened (take i entries)) (named_in e ++ []) in
    let z = ap length (append-nil (named_in e)) in
    omega (arith, b, z)

-- the part that was found for component i + 1 is the one below
pub inner_of : (parts : List Part) (part : Part) (items : List Component) (i : ℕ) (x : Component) (n : ℕ) → items ≡ part.components.items → x ≡ get_or items i x → i < length items
    → slice_get parts n ≡ named parts x.name.items → n < length parts → (p : Part) × (inner parts part (suc i) ≡ Some p)
inner_of parts part items i x n same is lt found within =
    let (p, at) = part_at parts n within in
    let has = component_at part items i x same is lt in
    let some : named parts x.name.items ≡ Some p = sym found ∙ at in
    (p, rw has some)
