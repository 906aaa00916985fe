-- What is due at a port of a component that was read, and the step that it can make there.
use Rattle.std.proofs.Common.{◌≡◌, ℕ, ◌-◌, Option, Some, None, List, length, get_or, IsTrue, refl, sym, ap, subst, ◌∙◌, arith}
use Rattle.std.specs.Prelude.{IfSome}
use Rattle.std.proofs.lemmas.List.{get_or_read}
use Rattle.bz_model.specs.declared.channel.Move.{Move}
use Rattle.bz_model.specs.declared.channel.Phase.{Phase}
use Rattle.bz_model.specs.Heads.{Component, HasOneHead, Head, Proc, CanMove, IsHeadOn, Moves}
use Rattle.bz_model.specs.Nets.{Site, IsPort, chan_at, moved, proc_at}
use Rattle.bz_model.specs.Phases.{allows, phase_after}
use Rattle.bz_net.specs.Keeping.{phase_in, proc_of, no_comp, state_of}
use Rattle.bz_net.specs.Due.{HasMove, IsSoleDue, TellsDue, Foresees}
use Rattle.bz_net.proofs.Ties.{proc_is}

module _ (sites : List Site) (phases : List Phase) (comps : List Component) (c p : ℕ) (x : Component) (len : length comps ≡ length sites) (port : IsPort sites c p) (is : x ≡ get_or comps (c - 1) x) where
  proc_read : x.proc ≡ proc_at (state_of phases comps) c
  proc_read =
      let from = port.comp_from in let to = port.comp_to in
      ap proc_of (get_or_read comps (c - 1) x (omega (arith, from, to, len)) is no_comp) ∙ sym (proc_is phases comps c)

  pub one_head : HasOneHead x.proc.todo → HasOneHead (proc_at (state_of phases comps) c).todo
  one_head one = subst (λ (q : Proc). HasOneHead q.todo) proc_read one

  no_move : (h : Head) → None ≡ Some h.move → ⊥
  no_move h e = cc

  pub tells_due : (o : Option Move) → IfSome o (HasMove x.proc p) → ((h : Head) → IsHeadOn x.proc p h → o ≡ Some h.move) → TellsDue sites (state_of phases comps) c p o
  tells_due None some only = λ mv at has.
      let has' : HasMove x.proc p mv = subst (λ (q : Proc). HasMove q p mv) (sym proc_read) has in
      no_move has'.0 (only has'.0 has'.1)
  tells_due (Some mv) some only = (port, subst (λ (q : Proc). HasMove q p mv) proc_read some)

  pub sole_due : (o : Option Move) → ((h : Head) → IsHeadOn x.proc p h → o ≡ Some h.move) → IsSoleDue sites (state_of phases comps) c p o
  sole_due o only = λ mv at has.
      let has' : HasMove x.proc p mv = subst (λ (q : Proc). HasMove q p mv) (sym proc_read) has in
      only has'.0 has'.1 ∙ ap (λ (m : Move). Some m) has'.2

  module _ (k : ℕ) (on : k ≡ chan_at sites c p) where
    can_move : CanMove (proc_at (state_of phases comps) c) p (phase_in phases (chan_at sites c p)) → CanMove x.proc p (phase_in phases k)
    can_move can = subst (λ (j : ℕ). CanMove x.proc p (phase_in phases j)) (sym on) (subst (λ (q : Proc). CanMove q p (phase_in phases (chan_at sites c p))) (sym proc_read) can)

    pub not_foreseen : (CanMove x.proc p (phase_in phases k) → ⊥) → Foresees sites (state_of phases comps) c p None
    not_foreseen cannot = λ steps. cannot (can_move steps.can)

    pub foreseen : (mv : Move) (value : Option ℕ) (rest : Proc) → Moves x.proc p (phase_in phases k) mv value rest → Foresees sites (state_of phases comps) c p (Some (k, mv, value))
    foreseen mv value rest moves =
        let can : CanMove x.proc p (phase_in phases k) = (moves.head, moves.on, subst (λ (m : Move). IsTrue (allows (phase_in phases k) m)) moves.move_is moves.allowed) in
        let here : CanMove (proc_at (state_of phases comps) c) p (phase_in phases (chan_at sites c p)) =
        subst (λ (q : Proc). CanMove q p (phase_in phases (chan_at sites c p))) proc_read (subst (λ (j : ℕ). CanMove x.proc p (phase_in phases j)) on can) in (
          moved (state_of phases comps) k (phase_after (phase_in phases k) mv value) c rest,
          record {
            steps_at = record { is_port = port; can = here };
            chan_is = on;
            rest = rest;
            moves = subst (λ (q : Proc). Moves q p (phase_in phases k) mv value rest) proc_read moves;
            next_is = refl;
          },
        )
