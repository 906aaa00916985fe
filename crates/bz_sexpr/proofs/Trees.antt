-- The data of nodes, made from the last node to the first.
use Rattle.std.proofs.Common.{◌≡◌, ℕ, zero, suc, ◌-◌, ◌≤◌, List, [], ◌∷◌, ◌++◌, length, map, take, drop, reverse, Some, None, refl, sym, ap, ap₂, ◌∙◌, inl, inr, arith, Vec, Global, drop-cons, get_or, rules, length-append}
use Rattle.std.proofs.Math.Seq.{take-append_seam, drop-append_seam}
use Rattle.std.proofs.lemmas.Bool.Decides.{leb_tells}
use Rattle.std.proofs.lemmas.List.{reverse-append, length-reverse, take-append-drop, length-take, take-map, take_all, drop_all}
use Rattle.bz_sexpr.specs.Data as spec
use Rattle.bz_sexpr.specs.Views.{data_of, datum_view}
use Rattle.bz_sexpr.specs.Nodes.{between, leaf_in, span_at, before_others, forest}
use Rattle.bz_sexpr.specs.declared.datum.Span.{Span}
use Rattle.bz_sexpr.specs.declared.datum.Datum.{Datum, Items, the_lemmas}
use Rattle.bz_sexpr.specs.declared.node.Node.{Node}

pub view_items : (v : Vec Datum Global) (span : Span) → datum_view (Items v span) ≡ spec.items (data_of (map datum_view v.items)) span
view_items v span = search (rules, the_lemmas)

-- ---- the first of a list that is kept the other way round

pub split_reverse : {A : Type 0} (xs : List A) (n k : ℕ) → k ≡ length xs - n → (reverse (drop k xs) ≡ take n (reverse xs)) × (reverse (take k xs) ≡ drop n (reverse xs))
split_reverse {A} xs n k e = elim (leb_tells n (length xs)) [
  | inl t ↦ (
      let all : reverse xs ≡ reverse (drop k xs) ++ reverse (take k xs) = ap reverse (sym (take-append-drop k xs)) ∙ reverse-append (take k xs) (drop k xs) in
      let len : length (reverse (drop k xs)) ≡ n = omega (arith, length-reverse (drop k xs), ap length (take-append-drop k xs), length-append (take k xs) (drop k xs), length-take k xs, e, t.1) in
      (sym (rw (all, ← len) (take-append_seam (reverse (drop k xs)) (reverse (take k xs)))), sym (rw (all, ← len) (drop-append_seam (reverse (drop k xs)) (reverse (take k xs)))))
      )
  | inr t ↦ (
      let none : k ≡ 0 = omega (arith, e, t.1) in
      let past : length (reverse xs) ≤ n = omega (arith, length-reverse xs, t.1) in
      (rw none (sym (take_all n (reverse xs) past)), rw none (sym (drop_all n (reverse xs) past)))
      )
]

-- ---- one node more, before those that are made

module _ (whole : List ℕ) (nodes : List Node) (left j : ℕ) (n : Node) (made : List Datum) where
  behind : left ≡ suc j → left ≤ length nodes → n ≡ get_or nodes j n → forest whole (drop left nodes) ≡ map datum_view (reverse made)
      → forest whole (drop j nodes) ≡ before_others (leaf_in (between n.from n.to whole)) n (map datum_view (reverse made))
  behind next within is before =
      ap (forest whole) (drop-cons nodes j n (omega (arith, next, within)) ∙ ap₂ (λ m k. m ∷ drop k nodes) (sym is) (sym next))
      ∙ ap (before_others (leaf_in (between n.from n.to whole)) n) before

  pub leaf_made : (l : spec.Leaf) (d : Datum) (new : List Datum) → left ≡ suc j → left ≤ length nodes → n ≡ get_or nodes j n → forest whole (drop left nodes) ≡ map datum_view (reverse made)
      → leaf_in (between n.from n.to whole) ≡ Some l → datum_view d ≡ spec.leaf l (span_at n) → new ≡ made ++ d ∷ [] → forest whole (drop j nodes) ≡ map datum_view (reverse new)
  leaf_made l d new next within is before leaf_is view pushed =
      behind next within is before ∙ ap (λ o. before_others o n (map datum_view (reverse made))) leaf_is
      ∙ ap (λ e. e ∷ map datum_view (reverse made)) (sym view) ∙ ap (map datum_view) (sym (ap reverse pushed ∙ reverse-append made (d ∷ [])))

  pub list_made : (v : Vec Datum Global) (mid new : List Datum) → left ≡ suc j → left ≤ length nodes → n ≡ get_or nodes j n → forest whole (drop left nodes) ≡ map datum_view (reverse made)
      → leaf_in (between n.from n.to whole) ≡ None → v.items ≡ take n.count (reverse made) → reverse mid ≡ drop n.count (reverse made) → new ≡ mid ++ Items v (span_at n) ∷ [] → forest whole (drop j nodes) ≡ map datum_view (reverse new)
  list_made v mid new next within is before list_is inner others pushed =
      let first : spec.items (data_of (take n.count (map datum_view (reverse made)))) (span_at n) ≡ datum_view (Items v (span_at n)) =
      ap (λ ds. spec.items (data_of ds) (span_at n)) (take-map datum_view n.count (reverse made) ∙ ap (map datum_view) (sym inner)) ∙ sym (view_items v (span_at n)) in
      let rest : drop n.count (map datum_view (reverse made)) ≡ map datum_view (reverse mid) = drop_of_map n.count (reverse made) ∙ ap (map datum_view) (sym others) in
      behind next within is before ∙ ap (λ o. before_others o n (map datum_view (reverse made))) list_is
      ∙ ap₂ (λ d ds. d ∷ ds) first rest ∙ ap (map datum_view) (sym (ap reverse pushed ∙ reverse-append mid (Items v (span_at n) ∷ [])))
    where
      drop_of_map : (k : ℕ) (xs : List Datum) → drop k (map datum_view xs) ≡ map datum_view (drop k xs)
      drop_of_map zero xs = refl
      drop_of_map (suc k) [] = refl
      drop_of_map (suc k) (x ∷ xs) = drop_of_map k xs
