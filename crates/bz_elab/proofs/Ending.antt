-- Faults of the ends of channels, as they are gathered.
use Rattle.std.proofs.Common.{◌≡◌, ◌≢◌, ℕ, zero, suc, ◌+◌, ◌-◌, ◌<◌, ◌≤◌, Bool, true, false, not, Option, None, Some, List, [], ◌∷◌, length, map, replicate, slice_set, ◌⊎◌, refl, sym, ◌∙◌, ap, subst, get_or, inl, inr, is_some, add-one, arith}
use Rattle.std.specs.Bool.{beq}
use Rattle.std.specs.List.{All}
use Rattle.std.proofs.lemmas.List.{get_or-set_same, get_or-set_other, get_or_past, length-map}
use Rattle.std.proofs.lemmas.List.Elements.{All-weaker}
use Rattle.std.proofs.lemmas.Bool.Decides.{eqb_tells, leb_tells}
use Rattle.bz_model.specs.Names.{External, external}
use Rattle.bz_model.specs.Nets.{Site}
use Rattle.bz_breeze_records.specs.declared.part.Part.{Part}
use Rattle.bz_flat.specs.declared.flat.Ends.{Ends}
use Rattle.bz_flat.specs.declared.flat.FlatComp.{FlatComp}
use Rattle.bz_flat.specs.declared.error.ElabError.{ElabError}
use Rattle.bz_flat.specs.declared.error.ElabError.TheVariants.{NoPart, Recursive, TooDeep, UnknownComponent, BadParameter, PortCount, BadChannel, TooBig, KindMismatch, WidthMismatch, TwoEnds, LooseEnd, PortSense, Memory}
use Rattle.bz_flat.specs.Flats.{sites_of}
use Rattle.bz_flat.specs.Wires.{IsEnd, IsFoundAt, HasTwo, IsLoose, IsMisused, end_at, end_port_at, no_ends}
use Rattle.bz_elab.specs.declared.walk.Draft.{Draft}
use Rattle.bz_elab.specs.Paths.{named, net}
use Rattle.bz_elab.specs.Refusals.{AppliesTo, Applies}
use Rattle.bz_elab.specs.Order.{rank}
use Rattle.bz_elab.specs.Growth.{IsNet}
use Rattle.bz_elab.specs.Numbers.{is_marked}
use Rattle.bz_elab.specs.Seats.{CompsFit, IsHere, Passed, Seated}
use Rattle.bz_elab.specs.EndFaults.{Adds, AreAll, AreDoubled, AreEnds, AreMarked, HasOne, HasOther, HostAt, IsEndFault, IsOfEnds, OneAt, TwoAt}
use Rattle.bz_elab.proofs.Gathering.{Or, adds_same, all_none, all_same, sort_more}
use Rattle.bz_elab.proofs.Reaching.{same_read}
use Rattle.bz_elab.proofs.Seating.{found, none_passed, none_some, passed_back, passed_less, some_is}
use Rattle.bz_elab.proofs.Soundness.{same_some}
use Rattle.bz_elab.proofs.Verdicts.{Table, in_net, is_loose, no_end, not_loose, odd_at, some_end, table_of}
use Rattle.bz_elab.proofs.Wiring.{net_is}

-- an end that isn't the one in the table is a second one
pub two_there : (sites : List Site) (ends : List Ends) (k c p r : ℕ) (side : Bool) → r ≡ p → AreEnds sites ends → 0 < k → IsEnd sites k side c p → HasOther ends k side c r → HasTwo sites k
two_there sites ends k c p r side same are from this (some, apart) =
    let (d, at) = found (end_at ends k side) some in
    let (q, port, other) = are k d side from at in
    (side, c, p, d, q, this, other, λ (e, f). apart (at ∙ ap Some (sym e), port ∙ (sym f ∙ sym same)))

-- another mark
pub doubled_more : (sites : List Site) (marks : List Bool) (n : ℕ) → AreDoubled sites marks → HasTwo sites (n + 1) → AreDoubled sites (slice_set marks n true)
doubled_more sites marks n before two k marked = elim (eqb_tells k n) [
  | inl e ↦ rw e.1 two
  | inr d ↦ before k (sym (get_or-set_other marks n k true false d.1) ∙ marked)
]

none_marked : (n m : ℕ) → is_marked (replicate n false) m ≡ true → ⊥
none_marked zero m e = cc
none_marked (suc n) zero e = cc
none_marked (suc n) (suc m) e = none_marked n m e

pub doubled_none : (sites : List Site) (n : ℕ) (marks : List Bool) → marks ≡ replicate n false → AreDoubled sites marks
doubled_none sites n marks is k marked = absurd (none_marked n k (rw is at marked))

both_same : (a b : Bool) → not (beq a b) ≡ false → a ≡ b
both_same true true e = refl
both_same false false e = refl
both_same true false e = cc
both_same false true e = cc

-- what is read of the table tells whether one end stands alone
pub odd_there : (ends : List Ends) (k : ℕ) (d : Ends) (a b : Bool) → k < length ends → a ≡ is_some (get_or ends k d).active → b ≡ is_some (get_or ends k d).passive → not (beq a b) ≡ true → HasOne ends (k + 1)
odd_there ends k d a b lt ea eb odd = odd_at ends k (get_or ends k d) a b (same_read ends k d (get_or ends k d) lt) lt ea eb odd

pub even_there : (ends : List Ends) (k : ℕ) (d : Ends) (a b : Bool) → k < length ends → a ≡ is_some (get_or ends k d).active → b ≡ is_some (get_or ends k d).passive → not (beq a b) ≡ false
    → is_some (end_at ends (k + 1) false) ≡ is_some (end_at ends (k + 1) true)
even_there ends k d a b lt ea eb even =
    let z : k + 1 - 1 ≡ k = omega arith in
    rw (z, same_read ends k no_ends d lt) (sym ea ∙ (both_same a b even ∙ eb))

pub none_there : (o : Option ℕ) (some : Bool) → some ≡ is_some o → some ≡ false → o ≡ None
none_there None some e f = refl
none_there (Some x) some e f = cc

pub stands_there : (o : Option ℕ) (some : Bool) → some ≡ is_some o → some ≡ true → o ≢ None
stands_there None some e t = cc
stands_there (Some x) some e t = λ f. cc

marked_within : (marks : List Bool) (k : ℕ) → is_marked marks k ≡ true → k < length marks
marked_within [] k e = cc
marked_within (m ∷ ms) zero e = omega arith
marked_within (m ∷ ms) (suc k) e = let lt = marked_within ms k e in omega arith

pub two_within : (marks : List Bool) (k : ℕ) → TwoAt marks k → k ≤ length marks
two_within marks k two = let lt = marked_within marks (k - 1) two.1 in omega arith

pub one_within : (ends : List Ends) (k : ℕ) → HasOne ends k → k ≤ length ends
one_within ends k odd = elim (leb_tells k (length ends)) [
  | inl h ↦ h.1
  | inr h ↦
      let none : get_or ends (k - 1) no_ends ≡ no_ends = get_or_past ends (k - 1) no_ends (omega (arith, h.1)) in
      absurd (odd (ap (λ (e : Ends). is_some e.active) none ∙ sym (ap (λ (e : Ends). is_some e.passive) none)))
]

-- The marks of channels, as far as a pass over the components has come.

pub marked_none : (sites : List Site) (ends : List Ends) (marks : List Bool) → AreMarked sites (Passed 1 0) ends marks
marked_none sites ends marks k c p side seen this other = absurd (none_passed sites c p this.is_port seen)

-- an end that stands in the table, or at a channel that is marked already
pub marked_not : (sites : List Site) (ends : List Ends) (marks : List Bool) (chan c p : ℕ) (side : Bool) → AreMarked sites (Passed c p) ends marks
    → IsEnd sites chan side c (suc p) → (HasOther ends chan side c (p + 1) → ⊥) → AreMarked sites (Passed c (p + 1)) ends marks
marked_not sites ends marks chan c p side before end never k d q t seen this other = elim (passed_less c p d q this.is_port (rw add-one at seen)) [
  | inl old ↦ before k d q t old this other
  | inr same ↦
      let kc : k + 1 ≡ chan = cc (this.on, end.on, same.0, same.1) in
      let ts : t ≡ side = cc (this.sense, end.sense, same.0) in
      absurd (never (rw (kc, ts, same.0, same.1, ← add-one p) at other))
]

-- an end at a channel that is marked now
pub marked_set : (sites : List Site) (ends : List Ends) (marks : List Bool) (chan c p : ℕ) (side : Bool) → AreMarked sites (Passed c p) ends marks
    → IsEnd sites chan side c (suc p) → 0 < chan → chan ≤ length marks → AreMarked sites (Passed c (p + 1)) ends (slice_set marks (chan - 1) true)
marked_set sites ends marks chan c p side before end from to k d q t seen this other = elim (eqb_tells k (chan - 1)) [
  | inl e ↦ rw e.1 (get_or-set_same marks (chan - 1) true false (omega (arith, from, to)))
  | inr apart ↦ get_or-set_other marks (chan - 1) k true false apart.1 ∙ elim (passed_less c p d q this.is_port (rw add-one at seen)) [
    | inl old ↦ before k d q t old this other
    | inr same ↦ let kc : k + 1 ≡ chan = cc (this.on, end.on, same.0, same.1) in absurd (apart.1 (omega (arith, kc)))
  ]
]

pub marked_all : (sites : List Site) (ends : List Ends) (marks : List Bool) (c n : ℕ) (site : Site) → IsHere sites c site → n ≡ length site.chans
    → AreMarked sites (Passed c n) ends marks → AreMarked sites (Passed (c + 1) 0) ends marks
marked_all sites ends marks c n site here all before k d q t seen this other = before k d q t (passed_back sites c n site here all d q this.is_port (rw add-one at seen)) this other

is_found : (ends : List Ends) (c p k : ℕ) (side : Bool) → IsFoundAt ends c p k side ⊎ (IsFoundAt ends c p k side → ⊥)
is_found ends c p k side = elim (end_at ends k side) as (λ o. end_at ends k side ≡ o → IsFoundAt ends c p k side ⊎ (IsFoundAt ends c p k side → ⊥)) [
  | None ↦ λ none. inr (λ at. none_some (end_at ends k side) c none at.0)
  | Some d ↦ λ some. elim (eqb_tells d c) [
    | inl e ↦ elim (eqb_tells (end_port_at ends k side) p) [
      | inl f ↦ inl (some ∙ ap Some e.1, f.1)
      | inr f ↦ inr (λ at. f.1 at.1)
    ]
    | inr e ↦ inr (λ at. e.1 (some_is at.0 some))
  ]
] refl

-- of two ends of one sense one isn't the one in the table
two_marked : (sites : List Site) (n : ℕ) (ends : List Ends) (least : ℕ) (marks : List Bool) → CompsFit n sites → Table sites ends least
    → AreMarked sites (Passed (length sites + 1) 0) ends marks → (k : ℕ) → HasTwo sites k → TwoAt marks k
two_marked sites n ends least marks fit t marked k (side, c, p, d, q, this, that, apart) =
    let a = in_net sites n k side c p fit this in
    let b = in_net sites n k side d q fit that in
    let z : k - 1 + 1 ≡ k = omega (arith, a.0) in
    let some = t.seen k c p side a.0 a.2 this in (
      a.0,
      elim (is_found ends c p k side) [
        | inl at ↦ marked (k - 1) d q side b.2 (rw z that) (rw z (some, λ also. apart (some_is also.0 at.0, sym at.1 ∙ also.1)))
        | inr not_at ↦ marked (k - 1) c p side a.2 (rw z this) (rw z (some, not_at))
      ],
    )

-- All faults of ends, sort after sort.

or_below : (P : ElabError → Type 0) (f : ℕ → ElabError) (N : ℕ → Type 0) (r : ℕ) → ((e : ElabError) → P e → rank e < r) → ((k : ℕ) → rank (f k) < r) → (e : ElabError) → Or P f N e → rank e < r
or_below P f N r old new e (inl p) = old e p
or_below P f N r old new e (inr (k, is, n)) = subst (λ q. rank q < r) (sym is) (new k)

abbrev pub Twos : List Site → ElabError → Type 0
Twos sites = Or (λ e. ⊥) TwoEnds (HasTwo sites)

abbrev pub Ones : List Site → List External → ElabError → Type 0
Ones sites ports = Or (Twos sites) LooseEnd (IsLoose sites ports)

abbrev pub Hosts : List Site → List External → ElabError → Type 0
Hosts sites ports = Or (Ones sites ports) PortSense (IsMisused sites ports)

to_end_fault : (sites : List Site) (ports : List External) (e : ElabError) → Hosts sites ports e → IsEndFault sites ports e
to_end_fault sites ports e (inl (inl (inl none))) = absurd none
to_end_fault sites ports e (inl (inl (inr (k, is, n)))) = subst (IsEndFault sites ports) (sym is) n
to_end_fault sites ports e (inl (inr (k, is, n))) = subst (IsEndFault sites ports) (sym is) n
to_end_fault sites ports e (inr (k, is, n)) = subst (IsEndFault sites ports) (sym is) n

from_end_fault : (sites : List Site) (ports : List External) (e : ElabError) → IsEndFault sites ports e → Hosts sites ports e
from_end_fault sites ports (TwoEnds k) h = inl (inl (inr (k, refl, h)))
from_end_fault sites ports (LooseEnd k) h = inl (inr (k, refl, h))
from_end_fault sites ports (PortSense k) h = inr (k, refl, h)
from_end_fault sites ports e h = absurd h

pub faults_told : (comps : List FlatComp) (ports : List External) (n port_count : ℕ) (ends : List Ends) (least : ℕ) (marks : List Bool) (none twos ones all : List ElabError)
    → CompsFit n (sites_of comps) → Seated (sites_of comps) (Passed (length comps + 1) 0) ends least → length ports ≡ port_count
    → AreDoubled (sites_of comps) marks → AreMarked (sites_of comps) (Passed (length comps + 1) 0) ends marks → none ≡ []
    → Adds TwoEnds (TwoAt marks) none twos → Adds LooseEnd (OneAt port_count ends) twos ones → Adds PortSense (HostAt ports ends) ones all
    → AreAll (IsEndFault (sites_of comps) ports) all
faults_told comps ports n port_count ends least marks none twos ones all fit seated count doubled marked empty a b c =
    let sites = sites_of comps in
    let t : Table sites ends least = table_of comps ends least seated in
    let marked' : AreMarked sites (Passed (length sites + 1) 0) ends marks = rw length-map marked in
    let two = adds_same TwoEnds (TwoAt marks) (HasTwo sites) none twos
    (λ k (from, mark). let z : k - 1 + 1 ≡ k = omega (arith, from) in rw z at (doubled (k - 1) mark)) (two_marked sites n ends least marks fit t marked') a in
    let one = adds_same LooseEnd (OneAt port_count ends) (IsLoose sites ports) twos ones
    (λ k (beyond, odd). is_loose sites ports n ends least k fit t (omega (arith, beyond, count)) odd)
    (λ k loose. (let beyond = loose.0 in omega (arith, beyond, count), λ even. not_loose sites ports n ends least k fit t even loose)) b in
    let host = adds_same PortSense (HostAt ports ends) (IsMisused sites ports) ones all
    (λ k (from, within, some). (from, within, some_end sites ends least k _ t from some))
    (λ k (from, within, has). (from, within, λ free. no_end sites n ends least k _ fit t free has)) c in
    let start : AreAll (λ e. ⊥) none = subst (AreAll (λ e. ⊥)) (sym empty) (all_none (λ e. ⊥) (λ e none. none)) in
    let below : (e : ElabError) → Twos sites e → rank e < 12 = or_below (λ e. ⊥) TwoEnds (HasTwo sites) 12 (λ e none. absurd none) (λ k. omega arith) in
    let below' : (e : ElabError) → Ones sites ports e → rank e < 13 =
    or_below (Twos sites) LooseEnd (IsLoose sites ports) 13 (λ e w. let lt = below e w in omega (arith, lt)) (λ k. omega arith) in
    let first = sort_more (λ e. ⊥) (HasTwo sites) TwoEnds 11 none twos (λ k. refl) (λ k. refl) (λ k. refl) (λ e none. absurd none) start two in
    let second = sort_more (Twos sites) (IsLoose sites ports) LooseEnd 12 twos ones (λ k. refl) (λ k. refl) (λ k. refl) below first one in
    let third = sort_more (Ones sites ports) (IsMisused sites ports) PortSense 13 ones all (λ k. refl) (λ k. refl) (λ k. refl) below' second host in
    all_same (Hosts sites ports) (IsEndFault sites ports) all (to_end_fault sites ports) (from_end_fault sites ports) third

-- a fault of the ends of a part's net, as one of the part
end_applies : (parts : List Part) (top : Part) (e : ElabError) → IsEndFault (net parts top).sites (net parts top).ports e → AppliesTo parts top e
end_applies parts top NoPart h = absurd h
end_applies parts top (Recursive n) h = absurd h
end_applies parts top TooDeep h = absurd h
end_applies parts top (UnknownComponent n i) h = absurd h
end_applies parts top (BadParameter n i) h = absurd h
end_applies parts top (PortCount n i) h = absurd h
end_applies parts top (BadChannel n i) h = absurd h
end_applies parts top TooBig h = absurd h
end_applies parts top (KindMismatch n i) h = absurd h
end_applies parts top (WidthMismatch n i) h = absurd h
end_applies parts top (TwoEnds k) h = h
end_applies parts top (LooseEnd k) h = h
end_applies parts top (PortSense k) h = h
end_applies parts top Memory h = absurd h

applies_named : (parts : List Part) (name : List ℕ) (top : Part) (e : ElabError) → named parts name ≡ Some top → IsEndFault (net parts top).sites (net parts top).ports e → Applies parts name e
applies_named parts name top NoPart is h = absurd h
applies_named parts name top e is h = (top, is, end_applies parts top e h)

of_ends : (parts : List Part) (top : Part) (e : ElabError) → IsOfEnds e → AppliesTo parts top e → IsEndFault (net parts top).sites (net parts top).ports e
of_ends parts top (TwoEnds k) of h = h
of_ends parts top (LooseEnd k) of h = h
of_ends parts top (PortSense k) of h = h
of_ends parts top e of h = absurd of

named_applies : (parts : List Part) (name : List ℕ) (top : Part) (e : ElabError) → named parts name ≡ Some top → IsOfEnds e → Applies parts name e → AppliesTo parts top e
named_applies parts name top NoPart is of a = absurd of
named_applies parts name top e is of a = subst (λ (p : Part). AppliesTo parts p e) (same_some is a.1) a.2

ends_of : (sites : List Site) (ports : List External) (e : ElabError) → IsEndFault sites ports e → IsOfEnds e
ends_of sites ports (TwoEnds k) h = tt
ends_of sites ports (LooseEnd k) h = tt
ends_of sites ports (PortSense k) h = tt
ends_of sites ports e h = h

-- the faults of the ends of a part's net are the refusals of the part that are of ends
pub all_apply : (parts : List Part) (name : List ℕ) (top : Part) (d : Draft) (es : List ElabError) → named parts name ≡ Some top → IsNet parts top d
    → AreAll (IsEndFault (sites_of d.comps) (map external top.ports.items)) es → AreAll (λ e. IsOfEnds e × Applies parts name e) es
all_apply parts name top d es is n all =
    all_same (IsEndFault (net parts top).sites (net parts top).ports) (λ e. IsOfEnds e × Applies parts name e) es
    (λ e h. (ends_of (net parts top).sites (net parts top).ports e h, applies_named parts name top e is h))
    (λ e (of, a). of_ends parts top e of (named_applies parts name top e is of a)) (rw (← net_is parts top d n) all)

pub those_apply : (parts : List Part) (name : List ℕ) (es : List ElabError) → AreAll (λ e. IsOfEnds e × Applies parts name e) es → All (Applies parts name) es
those_apply parts name es all = All-weaker (λ e. IsOfEnds e × Applies parts name e) (Applies parts name) (λ e w. w.1) es all.sound
