-- What the table of ends tells of each refusal.
use Rattle.std.proofs.Common.{◌≡◌, ◌≢◌, ℕ, zero, suc, ◌+◌, ◌-◌, ◌<◌, ◌≤◌, ◌^◌, Bool, true, false, not, Option, None, Some, List, [], ◌∷◌, length, map, ◌⊎◌, inl, inr, refl, sym, ◌∙◌, ap, subst, arith, get_or, is_some}
use Rattle.std.proofs.lemmas.Bool.Decides.{leb_tells}
use Rattle.std.specs.Bool.{beq}
use Rattle.std.proofs.lemmas.List.{length-map}
use Rattle.bz_flat.specs.declared.flat.FlatComp.{FlatComp}
use Rattle.bz_model.specs.declared.names.Port.{Port}
use Rattle.bz_flat.specs.declared.flat.Ends.{Ends}
use Rattle.bz_model.specs.Names.{External, external}
use Rattle.bz_model.specs.Hosts.{port_is_passive}
use Rattle.bz_model.specs.Nets.{Site}
use Rattle.bz_flat.specs.Flats.{sites_of}
use Rattle.bz_flat.specs.Wires.{IsEnd, HasEnd, HasTwo, end_at, no_ends, IsLoose, IsMisused}
use Rattle.bz_elab.specs.Seats.{Seated, Passed, CompsFit, IsLeast}
use Rattle.bz_elab.proofs.Seating.{found, both}
use Rattle.bz_elab.proofs.Sites.{get_or-map}

abbrev pub Table : List Site → List Ends → ℕ → Type 0
Table sites ends clash = Seated sites (Passed (length sites + 1) 0) ends clash

pub in_net : (sites : List Site) (n k : ℕ) (side : Bool) (c p : ℕ) → CompsFit n sites → IsEnd sites k side c p → (0 < k) × (k ≤ n) × Passed (length sites + 1) 0 c p
in_net sites n k side c p fit e =
    let to = e.is_port.comp_to in
    let at = (fit.each c e.is_port.comp_from to).1 (p - 1) (let a = e.is_port.port_from in let b = e.is_port.port_to in omega arith) in
    let P : ℕ → Type 0 = λ j. (0 < j) × (j ≤ n) in
    let r = subst P e.on at in (r.0, r.1, inl (omega arith))

pub not_two_below : (sites : List Site) (n : ℕ) (ends : List Ends) (least : ℕ) → CompsFit n sites → Table sites ends least → (j : ℕ) → j < least → HasTwo sites j → ⊥
not_two_below sites n ends least fit s j below (side, c, p, d, q, e, f, apart) =
    let a = in_net sites n j side c p fit e in
    let b = in_net sites n j side d q fit f in
    apart (s.single j c p d q side a.0 below a.2 e b.2 f)

pub least_two : (sites : List Site) (n : ℕ) (ends : List Ends) (least : ℕ) → CompsFit n sites → Table sites ends least → least < 2 ^ 32 - 1 → IsLeast (HasTwo sites) least
least_two sites n ends least fit s below = record {
  is_in = s.clashes below;
  least = λ j two. elim (leb_tells least j) [ inl h ↦ h.1 | inr h ↦ absurd (not_two_below sites n ends least fit s j h.1 two) ];
}

pub no_two : (sites : List Site) (n : ℕ) (ends : List Ends) → CompsFit n sites → Table sites ends (2 ^ 32 - 1) → (j : ℕ) → HasTwo sites j → ⊥
no_two sites n ends fit s j (side, c, p, d, q, e, f, apart) =
    let a = in_net sites n j side c p fit e in let few = fit.few in
    not_two_below sites n ends (2 ^ 32 - 1) fit s j (omega (arith, few, a.1)) (side, c, p, d, q, e, f, apart)

pub no_end : (sites : List Site) (n : ℕ) (ends : List Ends) (clash k : ℕ) (side : Bool) → CompsFit n sites → Table sites ends clash → end_at ends k side ≡ None → HasEnd sites k side → ⊥
no_end sites n ends clash k side fit s none (c, p, e) =
    let a = in_net sites n k side c p fit e in s.seen k c p side a.0 a.2 e none

pub some_end : (sites : List Site) (ends : List Ends) (clash k : ℕ) (side : Bool) → Table sites ends clash → 0 < k → end_at ends k side ≢ None → HasEnd sites k side
some_end sites ends clash k side s from some =
    let (c, at) = found (end_at ends k side) some in let (p, port, w, e) = s.stands k c side from at in (c, p, e)

pub not_loose : (sites : List Site) (ports : List External) (n : ℕ) (ends : List Ends) (clash k : ℕ) → CompsFit n sites → Table sites ends clash
    → is_some (end_at ends k false) ≡ is_some (end_at ends k true) → IsLoose sites ports k → ⊥
not_loose sites ports n ends clash k fit s even (beyond, side, (c, p, e), none) =
    let a = in_net sites n k side c p fit e in
    none (some_end sites ends clash k (not side) s a.0 (both ends k side even (s.seen k c p side a.0 a.2 e)))

pub is_loose : (sites : List Site) (ports : List External) (n : ℕ) (ends : List Ends) (clash k : ℕ) → CompsFit n sites → Table sites ends clash → length ports < k
    → (is_some (end_at ends k false) ≡ is_some (end_at ends k true) → ⊥) → IsLoose sites ports k
is_loose sites ports n ends clash k fit s beyond odd =
    elim (end_at ends k false) as (λ o. end_at ends k false ≡ o → IsLoose sites ports k) [
      | None ↦ λ e. elim (end_at ends k true) as (λ o. end_at ends k true ≡ o → IsLoose sites ports k) [
        | None ↦ λ f. absurd (odd (ap is_some (e ∙ sym f)))
        | Some d ↦ λ f. (beyond, true, some_end sites ends clash k true s (omega arith) (λ g. cc), no_end sites n ends clash k false fit s e)
      ] refl
      | Some c ↦ λ e. elim (end_at ends k true) as (λ o. end_at ends k true ≡ o → IsLoose sites ports k) [
        | None ↦ λ f. (beyond, false, some_end sites ends clash k false s (omega arith) (λ g. cc), no_end sites n ends clash k true fit s f)
        | Some d ↦ λ f. absurd (odd (ap is_some e ∙ sym (ap is_some f)))
      ] refl
    ] refl

pub table_of : (comps : List FlatComp) (ends : List Ends) (clash : ℕ) → Seated (sites_of comps) (Passed (length comps + 1) 0) ends clash → Table (sites_of comps) ends clash
table_of comps ends clash s = rw length-map s

pub loose_least : (sites : List Site) (ports : List External) (n : ℕ) (ends : List Ends) (clash k : ℕ) → CompsFit n sites → Table sites ends clash → length ports ≤ k
    → ((j : ℕ) → length ports < j → j ≤ k → is_some (end_at ends j false) ≡ is_some (end_at ends j true))
    → (is_some (end_at ends (k + 1) false) ≡ is_some (end_at ends (k + 1) true) → ⊥) → IsLeast (IsLoose sites ports) (k + 1)
loose_least sites ports n ends clash k fit t few even odd = record {
  is_in = is_loose sites ports n ends clash (k + 1) fit t (omega arith) odd;
  least = λ j loose. elim (leb_tells (k + 1) j) [
    | inl h ↦ h.1
    | inr h ↦ let b = loose.0 in absurd (not_loose sites ports n ends clash j fit t (even j b (omega (arith, h.1))) loose)
  ];
}

pub no_loose : (sites : List Site) (ports : List External) (n : ℕ) (ends : List Ends) (clash : ℕ) → CompsFit n sites → Table sites ends clash
    → ((j : ℕ) → length ports < j → j ≤ n → is_some (end_at ends j false) ≡ is_some (end_at ends j true)) → (j : ℕ) → IsLoose sites ports j → ⊥
no_loose sites ports n ends clash fit t even j loose =
    let (c, p, e) = loose.2 in
    let a = in_net sites n j loose.1 c p fit e in
    not_loose sites ports n ends clash j fit t (even j loose.0 a.1) loose

pub misused_least : (sites : List Site) (ports : List External) (n : ℕ) (ends : List Ends) (clash k : ℕ) → CompsFit n sites → Table sites ends clash → k < length ports
    → ((j : ℕ) → 0 < j → j ≤ k → end_at ends j (not (port_is_passive ports j)) ≡ None)
    → end_at ends (k + 1) (not (port_is_passive ports (k + 1))) ≢ None → IsLeast (IsMisused sites ports) (k + 1)
misused_least sites ports n ends clash k fit t below free some = record {
  is_in = (omega arith, omega arith, some_end sites ends clash (k + 1) _ t (omega arith) some);
  least = λ j bad. elim (leb_tells (k + 1) j) [
    | inl h ↦ h.1
    | inr h ↦ absurd (no_end sites n ends clash j _ fit t (free j bad.0 (omega (arith, h.1))) bad.2)
  ];
}

not_odd : (a b : Bool) → a ≡ b → not (beq a b) ≡ true → ⊥
not_odd true true e h = cc
not_odd false false e h = cc
not_odd true false e h = cc
not_odd false true e h = cc

get_or_default : {X : Type 0} (xs : List X) (i : ℕ) (d e : X) → i < length xs → get_or xs i d ≡ get_or xs i e
get_or_default [] i d e h = absurd (omega arith)
get_or_default (x ∷ xs) zero d e h = refl
get_or_default (x ∷ xs) (suc i) d e h = get_or_default xs i d e (omega arith)

pub odd_at : (ends : List Ends) (k : ℕ) (pair : Ends) (a b : Bool) → pair ≡ get_or ends k pair → k < length ends → a ≡ is_some pair.active → b ≡ is_some pair.passive → not (beq a b) ≡ true
    → is_some (end_at ends (k + 1) false) ≡ is_some (end_at ends (k + 1) true) → ⊥
odd_at ends k pair a b is below ea eb odd even =
    let z : k + 1 - 1 ≡ k = omega arith in
    let at : get_or ends (k + 1 - 1) no_ends ≡ pair = rw z (get_or_default ends k no_ends pair below ∙ sym is) in
    let f : is_some pair.active ≡ is_some pair.passive = rw at at even in
    let same : a ≡ b = ea ∙ f ∙ sym eb in
    not_odd a b same odd

pub port_at : (ports : List Port) (k : ℕ) (port : Port) → k < length ports → port ≡ get_or ports k port → port_is_passive (map external ports) (k + 1) ≡ port.passive
port_at ports k port below is = let z : k + 1 - 1 ≡ k = omega arith in rw (z, port_is_passive) (ap (λ (e : External). e.passive) (get_or-map external ports k port _ below is))

pub host_at : (ends : List Ends) (k : ℕ) (pair : Ends) (ports : List Port) (port : Port) (some : Bool) (host : Option ℕ) → port ≡ get_or ports k port → k < length ports → pair ≡ get_or ends k pair → k < length ends → some ≡ is_some host → some ≡ true
    → ((port.passive ≡ true) × (host ≡ pair.active)) ⊎ ((port.passive ≡ false) × (host ≡ pair.passive)) → end_at ends (k + 1) (not (port_is_passive (map external ports) (k + 1))) ≢ None
host_at ends k pair ports port some host here in_ports is below es et which none =
    let sense = port_at ports k port in_ports here in
    let z : k + 1 - 1 ≡ k = omega arith in
    let at : get_or ends (k + 1 - 1) no_ends ≡ pair = rw z (get_or_default ends k no_ends pair below ∙ sym is) in
    elim which [
      | inl h ↦ let e : pair.active ≡ None = rw (sense, h.0, at) at none in cc
      | inr h ↦ let e : pair.passive ≡ None = rw (sense, h.0, at) at none in cc
    ]
