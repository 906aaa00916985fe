-- No refusal applies to an elaborated part.
use Rattle.std.proofs.Common.{◌≡◌, ℕ, zero, suc, ◌<◌, ◌≤◌, Bool, true, false, not, None, Some, List, [], ◌∷◌, ◌++◌, length, map, inl, inr, refl, sym, ◌∙◌, ap, subst, arith, length-append, option_and_then}
use Rattle.bz_model.specs.Names.{External, external}
use Rattle.bz_model.specs.Nets.{Site, chan_at, passive_at}
use Rattle.bz_model.specs.Hosts.{port_is_passive}
use Rattle.bz_breeze_records.specs.declared.part.Part.{Part}
use Rattle.bz_flat.specs.declared.error.ElabError.{ElabError}
use Rattle.bz_flat.specs.declared.error.ElabError.TheVariants.{NoPart, Recursive, TooDeep, UnknownComponent, BadParameter, PortCount, BadChannel, TooBig, KindMismatch, WidthMismatch, TwoEnds, LooseEnd, PortSense, Memory}
use Rattle.bz_elab.specs.declared.error.Fault.{Fault}
use Rattle.bz_elab.specs.declared.error.Fault.TheVariants as fault
use Rattle.bz_flat.specs.declared.flat.Ends.{Ends}
use Rattle.bz_elab.specs.declared.walk.Draft.{Draft}
use Rattle.bz_flat.specs.Flats.{sites_of}
use Rattle.bz_elab.specs.Paths.{Path, named, inner, copied, role, stops, net, most_instances}
use Rattle.bz_elab.specs.Refusals.{FaultAt, IsRecursive, IsTooMany, AppliesTo, Applies}
use Rattle.bz_flat.specs.Wires.{HasTwo, IsLoose, IsMisused}
use Rattle.bz_elab.specs.Seats.{WellEnded}
use Rattle.bz_elab.specs.Growth.{IsNet, IsSoundBelow, Within}
use Rattle.bz_elab.proofs.Roles.{sound_has_none}
use Rattle.bz_elab.proofs.Wiring.{net_is}

-- No part that is reached reaches itself: else there would be a path of any length.

copied-append : (parts : List Part) (top : Part) (xs ys : Path) → copied parts top (xs ++ ys) ≡ option_and_then (λ p. copied parts p xs) (copied parts top ys)
copied-append parts top [] ys = elim (copied parts top ys) as (λ o. o ≡ option_and_then (λ p. Some p) o) [ None ↦ refl | Some p ↦ refl ]
copied-append parts top (i ∷ xs) ys =
    ap (option_and_then (λ p. inner parts p i)) (copied-append parts top xs ys) ∙
    elim (copied parts top ys) as (λ o. option_and_then (λ p. inner parts p i) (option_and_then (λ p. copied parts p xs) o) ≡ option_and_then (λ p. option_and_then (λ q. inner parts q i) (copied parts p xs)) o) [ None ↦ refl | Some p ↦ refl ]

pub longer : (parts : List Part) (top part : Part) (path again : Path) (n : ℕ) → copied parts top path ≡ Some part → copied parts part again ≡ Some part → 0 < length again
    → (long : Path) × (copied parts top long ≡ Some part) × (n ≤ length long)
longer parts top part path again zero at loop pos = (path, at, omega arith)
longer parts top part path again (suc n) at loop pos =
    let (long, there, le) = longer parts top part path again n at loop pos in
    (again ++ long, copied-append parts top again long ∙ rw there loop, let k = length-append again long in omega (arith, k, le, pos))

no_recursion : (parts : List Part) (top : Part) (n : ℕ) → IsSoundBelow parts top most_instances → IsRecursive parts top n → ⊥
no_recursion parts top n s r =
    let (long, there, le) = longer parts top r.part r.path (r.first ∷ r.others) 65 r.reached r.again (omega arith) in
    let short = s.short long r.part there in
    omega (arith, short, le)

no_fault : (parts : List Part) (top : Part) (f : Fault) (n i : ℕ) → IsSoundBelow parts top most_instances → FaultAt parts top f n i → ⊥
no_fault parts top f n i s (at, h) = sound_has_none at.part.channels.items at.comp (role parts at.comp) f (s.sound at.path at.part at.reached i at.comp at.here) h

not_too_many : (parts : List Part) (top : Part) (d : Draft) → IsNet parts top d → Within d → IsTooMany 0 0 0 (stops parts top) → ⊥
not_too_many parts top d n w (inl h) = let a = n.comps_len in let b = w.comps_few in omega (arith, h)
not_too_many parts top d n w (inr (inl h)) = let a = ap length n.chans_are in let b = w.chans_few in omega (arith, h, a)
not_too_many parts top d n w (inr (inr h)) = let a = n.ends_are in let b = w.ends_few in omega (arith, h, a)

not_two : (sites : List Site) (ports : List External) (ends : List Ends) (k : ℕ) → WellEnded sites ports ends → HasTwo sites k → ⊥
not_two sites ports ends k w (side, c, p, d, q, e, f, apart) = apart (w.one_end c p d q e.is_port f.is_port (e.on ∙ sym f.on) (e.sense ∙ sym f.sense))

not_loose : (sites : List Site) (ports : List External) (ends : List Ends) (k : ℕ) → WellEnded sites ports ends → IsLoose sites ports k → ⊥
not_loose sites ports ends k w (beyond, side, (c, p, e), none) =
    let (d, q, f) = w.other_end c p e.is_port (rw e.on beyond) in
    none (d, q, rw (e.on, e.sense) at f)

other_side : (a b : Bool) → a ≡ b → a ≡ not b → ⊥
other_side true true e f = cc
other_side false false e f = cc
other_side true false e f = cc
other_side false true e f = cc

not_misused : (sites : List Site) (ports : List External) (ends : List Ends) (k : ℕ) → WellEnded sites ports ends → IsMisused sites ports k → ⊥
not_misused sites ports ends k w (from, to, (c, p, e)) =
    let host : passive_at sites c p ≡ port_is_passive ports (chan_at sites c p) = w.host_end c p e.is_port (rw e.on to) in
    other_side (passive_at sites c p) (port_is_passive ports k) (host ∙ ap (port_is_passive ports) e.on) e.sense

none_of_part : (parts : List Part) (top : Part) (d : Draft) (ends : List Ends) → IsNet parts top d → IsSoundBelow parts top most_instances → Within d
    → WellEnded (net parts top).sites (net parts top).ports ends
    → (e : ElabError) → AppliesTo parts top e → ⊥
none_of_part parts top d ends n s w we NoPart h = h
none_of_part parts top d ends n s w we (Recursive k) h = no_recursion parts top k s h
none_of_part parts top d ends n s w we TooDeep h = let short = s.short h.path h.part h.reached in let long = h.long in omega arith
none_of_part parts top d ends n s w we (UnknownComponent k i) h = no_fault parts top fault.UnknownComponent k i s h
none_of_part parts top d ends n s w we (BadParameter k i) h = no_fault parts top fault.BadParameter k i s h
none_of_part parts top d ends n s w we (PortCount k i) h = no_fault parts top fault.PortCount k i s h
none_of_part parts top d ends n s w we (BadChannel k i) h = no_fault parts top fault.BadChannel k i s h
none_of_part parts top d ends n s w we TooBig h = not_too_many parts top d n w h
none_of_part parts top d ends n s w we (KindMismatch k i) h = no_fault parts top fault.KindMismatch k i s h
none_of_part parts top d ends n s w we (WidthMismatch k i) h = no_fault parts top fault.WidthMismatch k i s h
none_of_part parts top d ends n s w we (TwoEnds k) h = not_two (net parts top).sites (net parts top).ports ends k we h
none_of_part parts top d ends n s w we (LooseEnd k) h = not_loose (net parts top).sites (net parts top).ports ends k we h
none_of_part parts top d ends n s w we (PortSense k) h = not_misused (net parts top).sites (net parts top).ports ends k we h
none_of_part parts top d ends n s w we Memory h = h

same_top : (parts : List Part) (name : List ℕ) (p q : Part) → named parts name ≡ Some p → named parts name ≡ Some q → q ≡ p
same_top parts name p q e f = cc

-- no refusal applies to the part that was elaborated
pub none_applies : (parts : List Part) (name : List ℕ) (top : Part) (d : Draft) (ends : List Ends) → named parts name ≡ Some top → IsNet parts top d → IsSoundBelow parts top most_instances → Within d
    → WellEnded (sites_of d.comps) (map external top.ports.items) ends
    → (e : ElabError) → Applies parts name e → ⊥
none_applies parts name top d ends is n s w we NoPart h = cc
none_applies parts name top d ends is n s w we e (q, named_q, h) =
    let net_eq = net_is parts top d n in
    let ended : WellEnded (net parts top).sites (net parts top).ports ends = rw (← net_eq) we in
    none_of_part parts top d ends n s w ended e (subst (λ (p : Part). AppliesTo parts p e) (same_top parts name top q is named_q) h)
