-- Which step a component has on a channel, by the phase of the channel.
use Rattle.std.proofs.Common.{◌≡◌, ◌≢◌, ◌↔◌, ◌⊎◌, inl, inr, ℕ, Bool, true, false, Option, Some, None, List, IsTrue, refl, sym, ap, ap₂, subst, ◌∙◌}
use Rattle.std.specs.Prelude.{MatchBool, MatchOption, is_some, not}
use Rattle.bz_model.specs.declared.channel.Move.{Move}
use Rattle.bz_model.specs.declared.channel.Move.TheVariants.{Ask, Take, Reply, Got}
use Rattle.bz_model.specs.declared.channel.Phase.{Phase}
use Rattle.bz_model.specs.declared.channel.Phase.TheVariants.{Idle, Asked, Taken, Replied, Broken}
use Rattle.bz_model.specs.Heads.{Component, HasOneHead, IsHeadOn, Proc, after_head, carried, opens}
use Rattle.bz_model.specs.Phases.{allows, incoming, phase_after}
use Rattle.bz_model.specs.Terms.{Store}
use Rattle.bz_model.specs.declared.expr.Expr.{Expr}
use Rattle.bz_model.specs.Nets.{Site, State, Step, StepsAt, moved, passive_at, proc_at}
use Rattle.bz_flat.specs.Wires.{IsEnd}
use Rattle.bz_kinds.specs.Riding.{riding, taken}
use Rattle.bz_kinds.proofs.RidingLaws.{came}
use Rattle.bz_net.specs.Due.{Foresees, HasStep, next_of}
use Rattle.bz_net.specs.Keeping.{comp_at, is_open, phase_in, state_of}
use Rattle.bz_net.specs.Sides.{answers}
use Rattle.bz_net.specs.Told.{IsTurning, Sighted}
use Rattle.bz_net.proofs.Sides.{sided-head}
use Rattle.bz_net.proofs.Soles.{same_step}
use Rattle.bz_net.proofs.Ties.{proc_is}

-- a move that is allowed, and that opens an end that is closed or closes one that is open, is the one that comes next
comes : (phase : Phase) (mv : Move) → IsTrue (allows phase mv) → opens mv ≡ not (is_open phase (answers mv)) → next_of phase ≡ Some mv
comes Idle Ask a o = refl
comes (Asked v) Ask a o = absurd (cc)
comes Taken Ask a o = absurd (cc)
comes (Replied v) Ask a o = absurd (cc)
comes Broken Ask a o = absurd (cc)
comes Idle Take a o = absurd (cc)
comes (Asked v) Take a o = refl
comes Taken Take a o = absurd (cc)
comes (Replied v) Take a o = absurd (cc)
comes Broken Take a o = absurd (cc)
comes Idle Reply a o = absurd (cc)
comes (Asked v) Reply a o = absurd (cc)
comes Taken Reply a o = refl
comes (Replied v) Reply a o = absurd (cc)
comes Broken Reply a o = absurd (cc)
comes Idle Got a o = absurd (cc)
comes (Asked v) Got a o = absurd (cc)
comes Taken Got a o = absurd (cc)
comes (Replied v) Got a o = refl
comes Broken Got a o = absurd (cc)

-- a step that is seen carries the value of each step there
pub carries_seen : (sites : List Site) (s : State) (c p : ℕ) (seen : Option (ℕ × Move × Option ℕ)) (value : Option ℕ) (b : Bool) → Foresees sites s c p seen → HasOneHead (proc_at s c).todo
    → MatchOption seen (b ≡ false) (λ m. IsTrue b ↔ m.2 ≡ value) → (k : ℕ) (mv : Move) (other : Option ℕ) (next : State) → Step sites s c p k mv other next → IsTrue b ↔ other ≡ value
carries_seen sites s c p None value b none one is k mv other next step = absurd (none step.steps_at)
carries_seen sites s c p (Some m) value b (last, seen) one is k mv other next step =
    let same = (same_step sites s c p k m.0 mv m.1 other m.2 next last one step seen).value_is in
    (λ t. same ∙ is.0 t, λ e. is.1 (sym same ∙ e))

module _ (sites : List Site) (phases : List Phase) (comps : List Component) (heres : List (List ℕ)) (sighted : Sighted sites phases comps heres) (c p k : ℕ) (passive : Bool) (end : IsEnd sites k passive c p) where
  abbrev pub s : State
  s = state_of phases comps

  -- where it steps, it does so by some move
  own_step : StepsAt sites s c p → (mv : Move) × (value : Option ℕ) × HasStep sites s c p k mv value
  own_step at =
      let (h, on, may) = at.can in let q = proc_at s c in let phase = phase_in phases k in
      let value = carried h.move h.gives q.store (incoming phase h.move) in let rest = after_head q h (incoming phase h.move) in (
        h.move,
        value,
        (
          moved s k (phase_after phase h.move value) c rest,
          record {
            steps_at = at;
            chan_is = sym end.on;
            rest = rest;
            moves = record { head = h; on = on; move_is = refl; allowed = subst (λ (j : ℕ). IsTrue (allows (phase_in phases j) h.move)) end.on may; value_is = refl; leaves = refl };
            next_is = refl;
          },
        ),
      )

  module _ (turning : IsTurning (comp_at comps c)) where
    -- and the phase of the channel tells which
    next_step : (j : ℕ) (mv : Move) (value : Option ℕ) (next : State) → Step sites s c p j mv value next → next_of (phase_in phases k) ≡ Some mv
    next_step j mv value next step =
        let at = step.steps_at.is_port in let h = step.moves.head in
        let on : IsHeadOn (comp_at comps c).proc p h = subst (λ (q : Proc). IsHeadOn q p h) (proc_is phases comps c) step.moves.on in
        let side : answers h.move ≡ passive_at sites c p = (sided-head (passive_at sites c) (comp_at comps c).proc.todo h on.0 (sighted.sides c at.comp_from at.comp_to)).0 ∙ ap (passive_at sites c) on.1 in
        let turns : opens h.move ≡ not (is_open (phase_in phases k) (answers h.move)) = turning p h on ∙ ap not (sighted.opened c p at ∙ ap₂ (λ i side. is_open (phase_in phases i) side) end.on (sym side)) in
        let may : IsTrue (allows (phase_in phases k) h.move) = subst (λ (i : ℕ). IsTrue (allows (phase_in phases i) h.move)) (step.chan_is ∙ end.on) (subst (λ (m : Move). IsTrue (allows (phase_in phases j) m)) step.moves.move_is step.moves.allowed) in
        comes (phase_in phases k) h.move may turns ∙ ap (λ (m : Move). Some m) (sym step.moves.move_is)

    pub not_next : (mv : Move) (value : Option ℕ) → next_of (phase_in phases k) ≢ Some mv → HasStep sites s c p k mv value → ⊥
    not_next mv value other (next, step) = other (next_step k mv value next step)

    -- the step by the move that comes next
    pub step_next : (mv : Move) → StepsAt sites s c p → next_of (phase_in phases k) ≡ Some mv → (value : Option ℕ) × HasStep sites s c p k mv value
    step_next mv at is =
        let (m, value, (next, step)) = own_step at in
        let same : m ≡ mv = some_same m mv (sym (next_step k m value next step) ∙ is) in
        (value, subst (λ (m : Move). HasStep sites s c p k m value) same (next, step))
      where
        some_same : (a b : Move) → Some a ≡ Some b → a ≡ b
        some_same a b e = cc

    -- what is carried is what was found of the steps by it
    pub found_by : (mv : Move) (value : Option ℕ) (b : Bool) → StepsAt sites s c p → next_of (phase_in phases k) ≡ Some mv
        → ((other : Option ℕ) (next : State) → Step sites s c p k mv other next → IsTrue b ↔ other ≡ value) → MatchBool b (HasStep sites s c p k mv value) (HasStep sites s c p k mv value → ⊥)
    found_by mv value true at is tells =
        let (other, (next, step)) = step_next mv at is in
        (next, subst (λ (v : Option ℕ). Step sites s c p k mv v next) ((tells other next step).0 refl) step)
    found_by mv value false at is tells = λ (next, step). let t : false ≡ true = (tells value next step).1 refl in cc

  -- a move that takes what comes in carries what rides
  brings : (mv : Move) → ((e : Expr) (kept : Store) (v : Option ℕ) → carried mv e kept v ≡ v) → ((v : Option ℕ) → taken mv v ≡ v) → (other : Option ℕ) (next : State) → Step sites s c p k mv other next → other ≡ riding (phase_in phases k)
  brings mv carries takes other next step =
      let phase = phase_in phases k in let h = step.moves.head in let kept = (proc_at s c).store in
      step.moves.value_is ∙ ap (λ (m : Move). carried m h.gives kept (incoming phase m)) (sym step.moves.move_is) ∙ carries h.gives kept (incoming phase mv)
      ∙ sym (came phase (riding phase) mv refl step.moves.allowed) ∙ takes (riding phase)

  pub rides : (mv : Move) → (mv ≡ Take) ⊎ (mv ≡ Got) → (other : Option ℕ) (next : State) → Step sites s c p k mv other next → other ≡ riding (phase_in phases k)
  rides Ask is = elim is [ inl e ↦ absurd (cc) | inr e ↦ absurd (cc) ]
  rides Take is = brings Take (λ e kept v. refl) (λ v. refl)
  rides Reply is = elim is [ inl e ↦ absurd (cc) | inr e ↦ absurd (cc) ]
  rides Got is = brings Got (λ e kept v. refl) (λ v. refl)

pub none_same : (a b : Option ℕ) → is_some a ≡ is_some b → is_some b ≡ false → a ≡ b
none_same None None same none = refl
none_same (Some a) None same none = absurd (cc)
none_same a (Some b) same none = absurd (cc)
