-- The edges that are read from the table of ends are those of the net.
use Rattle.std.proofs.Common.{◌≡◌, ℕ, zero, suc, ◌+◌, ◌<◌, ◌≤◌, Bool, true, false, Option, None, Some, List, [], ◌∷◌, length, drop, get_or, drop-cons, refl, sym, ap, ◌∙◌, subst, arith, slice_index_or, ◌-◌, inl, inr, ◌++◌, append_assoc, if◌then◌else◌}
use Rattle.std.specs.List.{All, Contains, cons_option}
use Rattle.std.proofs.lemmas.List.{append-nil}
use Rattle.std.proofs.lemmas.List.Elements.{All-nil, All-cons, Contains-append_left, Contains-append_right, Contains-push}
use Rattle.std.proofs.lemmas.Bool.Decides.{eqb_tells}
use Rattle.bz_model.specs.Names.{External}
use Rattle.bz_model.specs.Nets.{Wiring}
use Rattle.bz_flat.specs.declared.flat.Ends.{Ends}
use Rattle.bz_flat.specs.Wires.{EndsOf, WellWired, ends_in, no_ends}
use Rattle.bz_cli_source.specs.Listing.{host_holds}
use Rattle.bz_draw.specs.declared.drawing.Tip.{Tip}
use Rattle.bz_draw.specs.declared.drawing.Tip.TheVariants.{Port, Comp, Folded}
use Rattle.bz_draw.specs.declared.drawing.Edge.{Edge}
use Rattle.bz_draw.specs.Drawn.{StandsAt, IsEdge, AreEdges, Rise}
use Rattle.bz_draw.specs.Edges.{tip_at, is_within, edge, joined, edge_at, edges_from}
use Rattle.bz_draw.proofs.Ends.{stands, told, from_1, up_to}

-- ---- one edge

-- both ends of an edge were told, and they aren't in one box
record Joins (k : ℕ) (a b : Option Tip) (e : Edge) : Type 0 where
  chan : e.chan ≡ k
  from : a ≡ Some e.from
  to : b ≡ Some e.to
  apart : is_within e.from e.to ≡ false

joins_if : (k : ℕ) (a b : Tip) (e : Edge) (r : Bool) → is_within a b ≡ r → joined k (Some a) (Some b) ≡ Some e → Joins k (Some a) (Some b) e
joins_if k a b e true r is = let g = rw r at is in cc
joins_if k a b e false r is =
    let g = rw r at is in
    let same : edge k a b ≡ e = cc in
    record {
      chan = ap (λ (x : Edge). x.chan) (sym same);
      from = ap (λ (x : Edge). Some x.from) same;
      to = ap (λ (x : Edge). Some x.to) same;
      apart = subst (λ (x : Edge). is_within x.from x.to ≡ false) same r;
    }

joins : (k : ℕ) (a b : Option Tip) (e : Edge) → joined k a b ≡ Some e → Joins k a b e
joins k (Some a) (Some b) e is = joins_if k a b e (is_within a b) refl is
joins k (Some a) None e is = cc
joins k None b e is = cc

-- ends in no box in common
clash : {A : Type 0} → true ≡ false → A
clash e = cc

no_box : (i : ℕ) → is_within (Folded i) (Folded i) ≡ false → ⊥
no_box i is = elim (eqb_tells i i) [
  | inl t ↦ clash (sym t.0 ∙ is)
  | inr t ↦ t.1 refl
]

apart_from : (a b : Tip) → is_within a b ≡ false → (i : ℕ) → a ≡ Folded i → b ≡ Folded i → ⊥
apart_from a b is i e f = no_box i (subst (λ x. is_within x (Folded i) ≡ false) e (subst (λ y. is_within a y ≡ false) f is))

not_within : (a b : Tip) → ((i : ℕ) → a ≡ Folded i → b ≡ Folded i → ⊥) → is_within a b ≡ false
not_within (Port k) b apart = refl
not_within (Comp c p) b apart = refl
not_within (Folded i) (Port k) apart = refl
not_within (Folded i) (Comp c p) apart = refl
not_within (Folded i) (Folded j) apart = elim (eqb_tells i j) [
  | inl t ↦ absurd (apart i refl (ap Folded (sym t.1)))
  | inr t ↦ t.0
]

-- ---- a list with one more, or not

all_more : (P : Edge → Type 0) (o : Option Edge) (es : List Edge) → ((e : Edge) → o ≡ Some e → P e) → All P es → All P (cons_option o es)
all_more P None es f h = h
all_more P (Some e) es f h = All-cons P e es (f e refl) h

has_more : (o : Option Edge) (es : List Edge) (e : Edge) → Contains es e → Contains (cons_option o es) e
has_more None es e h = h
has_more (Some x) es e h = Contains-append_right (x ∷ []) es e h

has_this : (o : Option Edge) (es : List Edge) (e : Edge) → o ≡ Some e → Contains (cons_option o es) e
has_this None es e is = cc
has_this (Some x) es e is =
    let same : x ≡ e = cc in
    subst (λ y. Contains (x ∷ es) y) same (Contains-append_left (x ∷ []) es x (Contains-push [] x))

rise_less : (k n : ℕ) (es : List Edge) → k ≤ n → Rise n es → Rise k es
rise_less k n [] le h = tt
rise_less k n (e ∷ es) le h = (omega (arith, le, h.0), h.1)

rise_more : (k : ℕ) (o : Option Edge) (es : List Edge) → ((e : Edge) → o ≡ Some e → e.chan ≡ suc k) → Rise (suc k) es → Rise k (cons_option o es)
rise_more k None es f h = rise_less k (suc k) es (omega arith) h
rise_more k (Some e) es f h = let is = f e refl in (omega (arith, is), subst (λ n. Rise n es) (sym is) h)

rises : (ports : List External) (boxes : List (Option ℕ)) (k : ℕ) (es : List Ends) → Rise k (edges_from ports boxes (suc k) es)
rises ports boxes k [] = tt
rises ports boxes k (x ∷ es) = rise_more k (edge_at ports boxes (suc k) x) (edges_from ports boxes (suc (suc k)) es) (λ e is. (joins (suc k) (tip_at boxes (suc k) x.active x.active_port (host_holds ports (suc k) false)) (tip_at boxes (suc k) x.passive x.passive_port (host_holds ports (suc k) true)) e is).chan) (rises ports boxes (suc k) es)

-- ---- all of them

-- these are the ends of the channels behind j
abbrev AreFrom : List Ends → ℕ → List Ends → Type 0
AreFrom ends j es = (i : ℕ) → slice_index_or es i no_ends ≡ slice_index_or ends (j + i) no_ends

next_from : (ends : List Ends) (j : ℕ) (x : Ends) (es : List Ends) → AreFrom ends j (x ∷ es) → AreFrom ends (suc j) es
next_from ends j x es are i =
    let n : j + suc i ≡ suc j + i = omega arith in
    are (suc i) ∙ ap (λ m. slice_index_or ends m no_ends) n

this_is : (ends : List Ends) (j : ℕ) (x : Ends) (es : List Ends) → AreFrom ends j (x ∷ es) → x ≡ ends_in ends (suc j)
this_is ends j x es are =
    let n : j + 0 ≡ suc j - 1 = omega arith in
    are 0 ∙ ap (λ m. slice_index_or ends m no_ends) n

module _ (w : Wiring) (ends : List Ends) (boxes : List (Option ℕ)) (of : EndsOf w ends) where
  edge_is : (k : ℕ) (x : Ends) (e : Edge) → 0 < k → x ≡ ends_in ends k → edge_at w.ports boxes k x ≡ Some e → IsEdge w boxes e
  edge_is k x e pos here is =
      let j = joins k _ _ e (ap (edge_at w.ports boxes k) (sym here) ∙ is) in
      record {
        from = subst (λ n. StandsAt w boxes n false e.from) (sym j.chan) (stands w ends boxes of k false e.from pos j.from);
        to = subst (λ n. StandsAt w boxes n true e.to) (sym j.chan) (stands w ends boxes of k true e.to pos j.to);
        apart = apart_from e.from e.to j.apart;
      }

  each_is : (j : ℕ) (es : List Ends) → AreFrom ends j es → All (IsEdge w boxes) (edges_from w.ports boxes (suc j) es)
  each_is j [] are = All-nil (IsEdge w boxes)
  each_is j (x ∷ es) are =
      all_more (IsEdge w boxes) (edge_at w.ports boxes (suc j) x) (edges_from w.ports boxes (suc (suc j)) es)
      (λ e is. edge_is (suc j) x e (omega arith) (this_is ends j x es are) is) (each_is (suc j) es (next_from ends j x es are))

  module _ (wired : WellWired w) where
    edge_has : (e : Edge) → IsEdge w boxes e → edge_at w.ports boxes e.chan (ends_in ends e.chan) ≡ Some e
    edge_has e is =
        let a = told w ends boxes of wired e.chan false e.from is.from in
        let b = told w ends boxes of wired e.chan true e.to is.to in
        let to = tip_at boxes e.chan (ends_in ends e.chan).passive (ends_in ends e.chan).passive_port (host_holds w.ports e.chan true) in
        ap (λ o. joined e.chan o to) a ∙ ap (joined e.chan (Some e.from)) b
        ∙ ap (λ r. if r then None else Some (edge e.chan e.from e.to)) (not_within e.from e.to is.apart)

    has : (j : ℕ) (es : List Ends) (i : ℕ) (e : Edge) → i < length es → edge_at w.ports boxes (suc (j + i)) (slice_index_or es i no_ends) ≡ Some e → Contains (edges_from w.ports boxes (suc j) es) e
    has j [] i e lt is = absurd (omega (arith, lt))
    has j (x ∷ es) zero e lt is =
        let n : suc (j + 0) ≡ suc j = omega arith in
        has_this (edge_at w.ports boxes (suc j) x) (edges_from w.ports boxes (suc (suc j)) es) e (ap (λ m. edge_at w.ports boxes m x) (sym n) ∙ is)
    has j (x ∷ es) (suc i) e lt is =
        let n : suc (j + suc i) ≡ suc (suc j + i) = omega arith in
        has_more (edge_at w.ports boxes (suc j) x) (edges_from w.ports boxes (suc (suc j)) es) e
        (has (suc j) es i e (omega (arith, lt)) (ap (λ m. edge_at w.ports boxes m (slice_index_or es i no_ends)) (sym n) ∙ is))

    has_edge : (k : ℕ) (e : Edge) → e.chan ≡ k → 0 < k → k ≤ length ends → edge_at w.ports boxes k (ends_in ends k) ≡ Some e → Contains (edges_from w.ports boxes 1 ends) e
    has_edge zero e c pos le is = absurd (omega (arith, pos))
    has_edge (suc i) e c pos le is =
        let n : suc i - 1 ≡ i = omega arith in
        let m : suc (0 + i) ≡ suc i = omega arith in
        has 0 ends i e (omega (arith, le)) (ap (λ k. edge_at w.ports boxes k (slice_index_or ends i no_ends)) m ∙ ap (λ l. edge_at w.ports boxes (suc i) (slice_index_or ends l no_ends)) (sym n) ∙ is)

    all_has : (e : Edge) → IsEdge w boxes e → Contains (edges_from w.ports boxes 1 ends) e
    all_has e is = has_edge e.chan e refl (from_1 w ends boxes of wired e.chan false e.from is.from) (up_to w ends boxes of wired e.chan false e.from is.from) (edge_has e is)

    pub are_edges : AreEdges w boxes (edges_from w.ports boxes 1 ends)
    are_edges = record {
      each = each_is 0 ends (λ i. (let z : i ≡ 0 + i = omega arith in ap (λ n. slice_index_or ends n no_ends) z));
      all = all_has;
      once = rises w.ports boxes 0 ends;
    }

-- with one more, or not
abbrev pub with_more : List Edge → Option Edge → List Edge
with_more es None = es
with_more es (Some e) = es ++ e ∷ []

onto : (xs : List Edge) (o : Option Edge) (ys : List Edge) → xs ++ cons_option o ys ≡ with_more xs o ++ ys
onto xs None ys = refl
onto xs (Some e) ys = sym (append_assoc xs (e ∷ []) ys)

-- the edges so far are those of the channels up to a place
abbrev pub Reads : List External → List (Option ℕ) → List Ends → ℕ → List Edge → Type 0
Reads ports boxes ends i edges = edges_from ports boxes 1 ends ≡ edges ++ edges_from ports boxes (i + 1) (drop i ends)

pub reads_more : (ports : List External) (boxes : List (Option ℕ)) (ends : List Ends) (i : ℕ) (x : Ends) (o : Option Edge) (edges : List Edge) → i < length ends → x ≡ get_or ends i x
    → o ≡ edge_at ports boxes (i + 1) x → Reads ports boxes ends i edges → Reads ports boxes ends (i + 1) (with_more edges o)
reads_more ports boxes ends i x o edges lt is told h =
    let n : suc i ≡ i + 1 = omega arith in
    let m : suc (i + 1) ≡ i + 1 + 1 = omega arith in
    let next : drop i ends ≡ x ∷ drop (i + 1) ends = drop-cons ends i x lt ∙ ap (λ y. y ∷ drop (suc i) ends) (sym is) ∙ ap (λ j. x ∷ drop j ends) n in
    let rest = edges_from ports boxes (suc (i + 1)) (drop (i + 1) ends) in
    h ∙ ap (λ es. edges ++ edges_from ports boxes (i + 1) es) next ∙ ap (λ p. edges ++ cons_option p rest) (sym told) ∙ onto edges o rest
    ∙ ap (λ j. with_more edges o ++ edges_from ports boxes j (drop (i + 1) ends)) m

pub reads_all : (ports : List External) (boxes : List (Option ℕ)) (ends : List Ends) (i : ℕ) (edges : List Edge) → length ends ≤ i → Reads ports boxes ends i edges → edges ≡ edges_from ports boxes 1 ends
reads_all ports boxes ends i edges le h = sym (h ∙ ap (λ es. edges ++ edges_from ports boxes (i + 1) es) (past i ends le) ∙ append-nil edges)
  where
    past : (j : ℕ) (es : List Ends) → length es ≤ j → drop j es ≡ []
    past zero [] g = refl
    past (suc j) [] g = refl
    past zero (e ∷ es) g = absurd (omega arith)
    past (suc j) (e ∷ es) g = past j es (omega (arith, g))
