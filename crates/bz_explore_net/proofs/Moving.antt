-- Which components can move behind an entry: it changes that at the ends of one channel alone.
use Rattle.std.proofs.Common.{◌≡◌, ◌≢◌, ◌⊎◌, ℕ, zero, suc, ◌<◌, ◌≤◌, Bool, true, false, Option, Some, None, Ok, Err, List, [], ◌∷◌, get_or, length, inl, inr, refl, sym, ap, subst, ◌∙◌, arith}
use Rattle.std.specs.Prelude.{IfOk, IfSome, OnErr, Result}
use Rattle.std.proofs.lemmas.Bool.{cases_eq}
use Rattle.bz_model.specs.declared.event.Entry.{Entry}
use Rattle.bz_model.specs.declared.event.Entry.TheVariants.{Fired, Host, Rested}
use Rattle.bz_model.specs.Nets.{IsPort, Site, State, Wiring, chan_at, passive_at, phase_at, proc_at}
use Rattle.bz_model.specs.Hosts.{host_after}
use Rattle.bz_model.specs.Phases.{phase_after}
use Rattle.bz_model.specs.Runs.{CanStep, Follows, Rest}
use Rattle.bz_model.specs.declared.event.NetError.{NetError}
use Rattle.bz_model.specs.declared.event.Who.{Who}
use Rattle.bz_net.specs.Replies.{IsPicked}
use Rattle.bz_net.specs.Simulation.{Adds, Simulation}
use Rattle.bz_flat.specs.Wires.{WellWired}
use Rattle.bz_net.specs.Ends.{StandsAt, TellsEnds}
use Rattle.bz_net.specs.Keeping.{Exact, MarksReady, flag_at}
use Rattle.bz_net.proofs.Readiness.{ChangedAt, changed_by_host, changed_by_step, same_readiness}
use Rattle.bz_explore_net.specs.Movers.{LooksAt, chan_of}

-- channel k is one of the net, and it and the components at it alone have changed
pub record MovesOn (w : Wiring) (s t : State) (k : ℕ) : Type 0 where
  pub from : 0 < k
  pub to : k ≤ length w.chans
  pub changed : ChangedAt w.sites s t k

pub moves_on : (w : Wiring) (s t : State) (e : Entry) (k : ℕ) → WellWired w → Follows w s e t → Some k ≡ chan_of e → MovesOn w s t k
moves_on w s t (Fired who c p j mv value) k wired step is =
    let port = step.steps_at.is_port in
    let same : k ≡ j = unwrap is in
    subst (MovesOn w s t) (sym same) (record {
      from = subst (λ n. 0 < n) (sym step.chan_is) (wired.chan_from c p port);
      to = subst (λ n. n ≤ length w.chans) (sym step.chan_is) (wired.chan_to c p port);
      changed = subst (λ (next : State). ChangedAt w.sites s next j) (sym step.next_is)
          (changed_by_step w.sites s c p j (phase_after (phase_at s j) mv value) step.rest (subst (λ n. 0 < n) (sym step.chan_is) (wired.chan_from c p port)) port step.chan_is);
    })
  where
    unwrap : Some k ≡ Some j → k ≡ j
    unwrap e = cc
moves_on w s t (Host who verb port value reply) k wired step is =
    let same : k ≡ port = unwrap is in
    let to = step.port_to in let within = wired.ports_to in
    subst (MovesOn w s t) (sym same) (record {
      from = step.port_from;
      to = omega (arith, to, within);
      changed = subst (λ (next : State). ChangedAt w.sites s next port) (sym step.next_is) (changed_by_host w.sites s port (host_after verb value (phase_at s port)) step.port_from);
    })
  where
    unwrap : Some k ≡ Some port → k ≡ port
    unwrap e = cc
moves_on w s t (Rested who) k wired step is = cc

pub stays : (w : Wiring) (s t : State) (e : Entry) → Follows w s e t → None ≡ chan_of e → t ≡ s
stays w s t (Fired who c p j mv value) step is = cc
stays w s t (Host who verb port value reply) step is = cc
stays w s t (Rested who) step is = step.1

pub looks_len : (sites : List Site) (s : State) (o : Option ℕ) (old new : List Bool) → LooksAt sites s o old new → length new ≡ length old
looks_len sites s None old new is = ap length is
looks_len sites s (Some c) old new looked = looked.len

-- what stands at an end has a flag
pub end_within : (w : Wiring) (s : State) (k : ℕ) (side : Bool) (o : Option ℕ) (row : List Bool) → MarksReady w s row → StandsAt w.sites k side o → IfSome o (λ c. c < length row)
end_within w s k side None row marks stands = tt
end_within w s k side (Some c) row marks stands = let to = stands.1.is_port.comp_to in let len = marks.row_len in omega (arith, to, len)

module _ (w : Wiring) (s t : State) (k : ℕ) (wired : WellWired w) (changed : ChangedAt w.sites s t k) where
  -- a component with no port on the channel can move as it could
  apart : (d : ℕ) → ((q : ℕ) → IsPort w.sites d q → chan_at w.sites d q ≢ k) → (CanStep w.sites s d → CanStep w.sites t d) × (CanStep w.sites t d → CanStep w.sites s d)
  apart zero off = ((λ can. absurd (none s can)), (λ can. absurd (none t can)))
    where
      none : (o : State) → CanStep w.sites o 0 → ⊥
      none o can = let from = can.1.is_port.comp_from in omega (arith, from)
  apart (suc i) off =
      let procs : proc_at s (suc i) ≡ proc_at t (suc i) = changed.procs (suc i) (omega arith) off in
      let phases : (q : ℕ) → IsPort w.sites (suc i) q → phase_at s (chan_at w.sites (suc i) q) ≡ phase_at t (chan_at w.sites (suc i) q) = λ q port. changed.phases (chan_at w.sites (suc i) q) (wired.chan_from (suc i) q port) (off q port) in
      (same_readiness w.sites s t (suc i) procs phases, same_readiness w.sites t s (suc i) (sym procs) (λ q port. sym (phases q port)))

  -- no port of a component is on the channel that is told at neither end
  off_side : (side : Bool) (o : Option ℕ) → StandsAt w.sites k side o → (d : ℕ) → o ≢ Some d → (q : ℕ) → IsPort w.sites d q → passive_at w.sites d q ≡ side → chan_at w.sites d q ≢ k
  off_side side None stands d other q port sense on = stands (d, q, record { is_port = port; on = on; sense = sense })
  off_side side (Some c) stands d other q port sense on =
      let end = stands.1 in
      let same = (wired.one_end c stands.0 d q end.is_port port (end.on ∙ sym on) (end.sense ∙ sym sense)).0 in
      other (ap Some same)

  off : (active passive : Option ℕ) → StandsAt w.sites k false active → StandsAt w.sites k true passive → (d : ℕ) → active ≢ Some d → passive ≢ Some d → (q : ℕ) → IsPort w.sites d q → chan_at w.sites d q ≢ k
  off active passive at_active at_passive d not_active not_passive q port = by_side (passive_at w.sites d q) refl
    where
      by_side : (side : Bool) → passive_at w.sites d q ≡ side → chan_at w.sites d q ≢ k
      by_side true sense = off_side true passive at_passive d not_passive q port sense
      by_side false sense = off_side false active at_active d not_active q port sense

  is_end : (o : Option ℕ) (d : ℕ) → (o ≡ Some d) ⊎ (o ≢ Some d)
  is_end None d = inr (λ e. cc)
  is_end (Some c) d = elim (cases_eq c d) [ inl same ↦ inl (ap Some same) | inr differ ↦ inr (λ e. differ (unwrap e)) ]
    where
      unwrap : Some c ≡ Some d → c ≡ d
      unwrap e = cc

  other_flag : (o : Option ℕ) (old new : List Bool) (d : ℕ) → LooksAt w.sites t o old new → o ≢ Some d → flag_at new d ≡ flag_at old d
  other_flag None old new d is not = ap (λ (row : List Bool). flag_at row d) is
  other_flag (Some c) old new d looked not = looked.others d (λ e. not (ap Some (sym e)))

  this_flag : (o : Option ℕ) (old new : List Bool) (d : ℕ) → LooksAt w.sites t o old new → o ≡ Some d → Exact w.sites t new d
  this_flag None old new d is at = cc
  this_flag (Some c) old new d looked at = subst (Exact w.sites t new) (unwrap at) looked.here
    where
      unwrap : Some c ≡ Some d → c ≡ d
      unwrap e = cc

  carried : (old new : List Bool) (d : ℕ) → flag_at new d ≡ flag_at old d → Exact w.sites t old d → Exact w.sites t new d
  carried old new d same exact = record { marked = λ e. exact.marked (sym same ∙ e); marks = λ can. same ∙ exact.marks can }

  -- so looking at both ends keeps the row exact
  pub looked_round : (active passive : Option ℕ) (old mid new : List Bool) → StandsAt w.sites k false active → StandsAt w.sites k true passive → LooksAt w.sites t active old mid → LooksAt w.sites t passive mid new → MarksReady w s old → MarksReady w t new
  looked_round active passive old mid new at_active at_passive first second before = record {
    row_len = looks_len w.sites t passive mid new second ∙ looks_len w.sites t active old mid first ∙ before.row_len;
    exact = exact;
  }
    where
      exact : (d : ℕ) → Exact w.sites t new d
      exact d = elim (is_end passive d) [
        | inl here ↦ this_flag passive mid new d second here
        | inr not_passive ↦ elim (is_end active d) [
          | inl here ↦ carried mid new d (other_flag passive mid new d second not_passive) (this_flag active old mid d first here)
          | inr not_active ↦
              let both = apart d (off active passive at_active at_passive d not_active not_passive) in
              let same = other_flag passive mid new d second not_passive ∙ other_flag active old mid d first not_active in
              record { marked = λ e. both.0 ((before.exact d).marked (sym same ∙ e)); marks = λ can. same ∙ (before.exact d).marks (both.1 can) }
        ]
      ]

-- where none can move, a step changes nothing
pub rested : (who : Who) (old new : Simulation) (row : List Bool) (made : Result Entry NetError) → Rest old.wiring.sites old.state → IfOk made (IsPicked old who 1) → IfOk made (λ e. Adds old e new) → OnErr made (new ≡ old) → MarksReady old.wiring old.state row → MarksReady new.wiring new.state row
rested who old new row (Ok (Fired who' c p k mv value)) rest picked adds same marks = absurd (rest c picked.1.is_in)
rested who old new row (Ok (Host who' verb port value reply)) rest picked adds same marks = absurd picked
rested who old new row (Ok (Rested who')) rest picked adds same marks =
    subst (λ (s : State). MarksReady new.wiring s row) (sym adds.follows.1) (subst (λ (w : Wiring). MarksReady w old.state row) (sym adds.wiring) marks)
rested who old new row (Err e) rest picked adds same marks = subst (λ (net : Simulation). MarksReady net.wiring net.state row) (sym same) marks

pub looked_ends : (w : Wiring) (s t : State) (k : ℕ) → WellWired w → ChangedAt w.sites s t k → (ends : List (Option ℕ)) (old mid new : List Bool) → TellsEnds w.sites k ends → LooksAt w.sites t (get_or ends 0 None) old mid → LooksAt w.sites t (get_or ends 1 None) mid new → MarksReady w s old → MarksReady w t new
looked_ends w s t k wired changed [] old mid new tells first second before = absurd tells
looked_ends w s t k wired changed (active ∷ []) old mid new tells first second before = absurd tells
looked_ends w s t k wired changed (active ∷ passive ∷ []) old mid new tells first second before =
    looked_round w s t k wired changed active passive old mid new tells.0 tells.1 first second before
looked_ends w s t k wired changed (active ∷ passive ∷ other ∷ ends) old mid new tells first second before = absurd tells
