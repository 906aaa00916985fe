-- What stands at an end, as the table of ends tells it.
use Rattle.std.proofs.Common.{◌≡◌, ℕ, zero, suc, ◌<◌, ◌≤◌, Bool, true, false, not, if◌then◌else◌, Option, None, Some, List, [], ◌∷◌, length, refl, sym, ap, ◌∙◌, subst, arith, slice_index_or, ◌-◌}
use Rattle.bz_model.specs.Names.{External}
use Rattle.bz_model.specs.Nets.{Wiring, passive_at, chan_at}
use Rattle.bz_model.specs.Hosts.{port_is_passive}
use Rattle.bz_flat.specs.declared.flat.Ends.{Ends}
use Rattle.bz_flat.specs.Wires.{EndsOf, WellWired, end_at, end_port_at}
use Rattle.bz_cli_source.specs.Listing.{host_holds}
use Rattle.bz_draw.specs.declared.drawing.Tip.{Tip}
use Rattle.bz_draw.specs.declared.drawing.Tip.TheVariants.{Port}
use Rattle.bz_draw.specs.Drawn.{drawn_at, box_of, StandsAt, component, host}
use Rattle.bz_draw.specs.Edges.{tip_at}

-- ---- the host's ends

other_of : (sense side : Bool) → (if sense then not side else side) ≡ true → sense ≡ not side
other_of true false e = refl
other_of true true e = cc
other_of false true e = refl
other_of false false e = cc

of_other : (sense side : Bool) → sense ≡ not side → (if sense then not side else side) ≡ true
of_other true false e = refl
of_other true true e = cc
of_other false true e = refl
of_other false false e = cc

abbrev nobody : External
nobody = record { name = []; passive = false }

holds_from : (ports : List External) (i : ℕ) (side : Bool) → host_holds ports (suc i) side ≡ true → (i < length ports) × ((slice_index_or ports i nobody).passive ≡ not side)
holds_from [] i side e = cc
holds_from (p ∷ ps) zero side e = (omega arith, other_of p.passive side e)
holds_from (p ∷ ps) (suc i) side e = let r = holds_from ps i side e in (omega (arith, r.0), r.1)

holds_to : (ports : List External) (i : ℕ) (side : Bool) → i < length ports → (slice_index_or ports i nobody).passive ≡ not side → host_holds ports (suc i) side ≡ true
holds_to [] i side lt e = absurd (omega (arith, lt))
holds_to (p ∷ ps) zero side lt e = of_other p.passive side e
holds_to (p ∷ ps) (suc i) side lt e = holds_to ps i side (omega (arith, lt)) e

passive_is : (ports : List External) (i : ℕ) → port_is_passive ports (suc i) ≡ (slice_index_or ports i nobody).passive
passive_is ports i = let n : suc i - 1 ≡ i = omega arith in ap (λ j. (slice_index_or ports j nobody).passive) n

from_host : (ports : List External) (k : ℕ) (side : Bool) → 0 < k → host_holds ports k side ≡ true → (k ≤ length ports) × (port_is_passive ports k ≡ not side)
from_host ports zero side pos e = absurd (omega (arith, pos))
from_host ports (suc i) side pos e = let r = holds_from ports i side e in (omega (arith, r.0), passive_is ports i ∙ r.1)

to_host : (ports : List External) (k : ℕ) (side : Bool) → 0 < k → k ≤ length ports → port_is_passive ports k ≡ not side → host_holds ports k side ≡ true
to_host ports zero side pos le e = absurd (omega (arith, pos))
to_host ports (suc i) side pos le e = holds_to ports i side (omega (arith, le)) (sym (passive_is ports i) ∙ e)

not_both : (side : Bool) → side ≡ not side → ⊥
not_both true e = cc
not_both false e = cc

the_tip : {a b : Tip} → Some a ≡ Some b → b ≡ a
the_tip e = cc

module _ (w : Wiring) (ends : List Ends) (boxes : List (Option ℕ)) (of : EndsOf w ends) where
  stands_by : (k : ℕ) (side : Bool) (tip : Tip) (o : Option ℕ) (h : Bool) → 0 < k → end_at ends k side ≡ o → host_holds w.ports k side ≡ h
      → tip_at boxes k o (end_port_at ends k side) h ≡ Some tip → StandsAt w boxes k side tip
  stands_by k side tip (Some c) h pos e f is = component c (end_port_at ends k side) (of.holds k c side pos e) (the_tip is)
  stands_by k side tip None true pos e f is = let r = from_host w.ports k side pos f in host pos r.0 r.1 (the_tip is)
  stands_by k side tip None false pos e f is = cc

  -- what is told stands there
  pub stands : (k : ℕ) (side : Bool) (tip : Tip) → 0 < k → tip_at boxes k (end_at ends k side) (end_port_at ends k side) (host_holds w.ports k side) ≡ Some tip → StandsAt w boxes k side tip
  stands k side tip pos is = stands_by k side tip (end_at ends k side) (host_holds w.ports k side) pos refl refl is

  module _ (wired : WellWired w) where
    -- a channel with an end is one of the net's
    pub from_1 : (k : ℕ) (side : Bool) (tip : Tip) → StandsAt w boxes k side tip → 0 < k
    from_1 k side tip (component c p is e) = subst (λ n. 0 < n) is.on (wired.chan_from c p is.is_port)
    from_1 k side tip (host pos le sense e) = pos

    pub up_to : (k : ℕ) (side : Bool) (tip : Tip) → StandsAt w boxes k side tip → k ≤ length ends
    up_to k side tip (component c p is e) = let le = subst (λ n. n ≤ length w.chans) is.on (wired.chan_to c p is.is_port) in omega (arith, le, of.ends_len)
    up_to k side tip (host pos le sense e) = omega (arith, le, of.ends_len, wired.ports_to)

    no_comp : (k : ℕ) (side : Bool) (c : ℕ) → 0 < k → k ≤ length w.ports → port_is_passive w.ports k ≡ not side → end_at ends k side ≡ Some c → ⊥
    no_comp k side c pos le sense e =
        let is = of.holds k c side pos e in
        let p = end_port_at ends k side in
        let at_port : passive_at w.sites c p ≡ port_is_passive w.ports (chan_at w.sites c p) = wired.host_end c p is.is_port (subst (λ n. n ≤ length w.ports) (sym is.on) le) in
        not_both side (sym is.sense ∙ at_port ∙ ap (port_is_passive w.ports) is.on ∙ sense)

    host_tip : (k : ℕ) (side : Bool) (o : Option ℕ) (p : ℕ) → 0 < k → k ≤ length w.ports → port_is_passive w.ports k ≡ not side → end_at ends k side ≡ o → tip_at boxes k o p (host_holds w.ports k side) ≡ Some (Port k)
    host_tip k side None p pos le sense e = ap (tip_at boxes k None p) (to_host w.ports k side pos le sense)
    host_tip k side (Some c) p pos le sense e = absurd (no_comp k side c pos le sense e)

    -- what stands there is told
    pub told : (k : ℕ) (side : Bool) (tip : Tip) → StandsAt w boxes k side tip → tip_at boxes k (end_at ends k side) (end_port_at ends k side) (host_holds w.ports k side) ≡ Some tip
    told k side tip (component c p is e) =
        let found = of.finds c p is.is_port in
        let at : end_at ends k side ≡ Some c = ap (λ n. end_at ends n side) (sym is.on) ∙ ap (end_at ends (chan_at w.sites c p)) (sym is.sense) ∙ found.0 in
        let port : end_port_at ends k side ≡ p = ap (λ n. end_port_at ends n side) (sym is.on) ∙ ap (end_port_at ends (chan_at w.sites c p)) (sym is.sense) ∙ found.1 in
        ap (λ o. tip_at boxes k o (end_port_at ends k side) (host_holds w.ports k side)) at ∙ ap (λ q. Some (drawn_at (box_of boxes c) c q)) port ∙ ap Some (sym e)
    told k side tip (host pos le sense e) = host_tip k side (end_at ends k side) (end_port_at ends k side) pos le sense refl ∙ ap Some (sym e)
