-- What is stuck stays so.
use Rattle.std.proofs.Common.{◌≡◌, ℕ, ◌<◌, ◌≤◌, Bool, true, Option, List, [], ◌∷◌, length, refl, sym, subst, arith}
use Rattle.std.specs.List.{AllByRecursion}
use Rattle.bz_model.specs.declared.channel.Move.{Move}
use Rattle.bz_model.specs.declared.channel.Phase.{Phase}
use Rattle.bz_model.specs.declared.channel.Phase.TheVariants.{Idle}
use Rattle.bz_model.specs.declared.event.Entry.{Entry}
use Rattle.bz_model.specs.declared.event.Entry.TheVariants.{Fired, Host, Rested}
use Rattle.bz_model.specs.declared.event.Verb.{Verb}
use Rattle.bz_model.specs.declared.event.Reply.{Reply}
use Rattle.bz_model.specs.Phases.{phase_after}
use Rattle.bz_model.specs.Heads.{Proc, CanMove}
use Rattle.bz_model.specs.Hosts.{HostStep, host_after, with_phase}
use Rattle.bz_model.specs.Nets.{Wiring, State, IsPort, Step, chan_at, moved, no_proc, phase_at, proc_at}
use Rattle.bz_model.specs.Runs.{Follows, Run}
use Rattle.bz_flat.specs.Wires.{WellWired}
use Rattle.bz_net.specs.Due.{HasMove}
use Rattle.bz_net.proofs.Ties.{at_other}
use Rattle.bz_waits.specs.Stuck.{AreStuck, Spares, StuckAt}

-- the move that can be made at a port is due there
due : (proc : Proc) (p : ℕ) (phase : Phase) (can : CanMove proc p phase) → HasMove proc p can.0.move
due proc p phase can = (can.0, can.1, refl)

module _ (w : Wiring) (wired : WellWired w) (member : ℕ → Bool) where
  -- a component whose process stays, and so do the phases where it has a move due, is stuck as it was
  as_it_was : (s t : State) (c : ℕ) → StuckAt w s member c → ((p : ℕ) → IsPort w.sites c p → proc_at t c ≡ proc_at s c)
      → ((p : ℕ) (mv : Move) → IsPort w.sites c p → HasMove (proc_at s c) p mv → phase_at t (chan_at w.sites c p) ≡ phase_at s (chan_at w.sites c p))
      → StuckAt w t member c
  as_it_was s t c at proc phase = record {
    still = λ p steps.
        let port = steps.is_port in
        let can : CanMove (proc_at s c) p (phase_at t (chan_at w.sites c p)) = subst (λ o. CanMove o p (phase_at t (chan_at w.sites c p))) (proc p port) steps.can in
        let has = due (proc_at s c) p (phase_at t (chan_at w.sites c p)) can in
        at.still p (record { is_port = port; can = subst (λ f. CanMove (proc_at s c) p f) (phase p can.0.move port has) can });
    inner = λ p mv port has. at.inner p mv port (subst (λ o. HasMove o p mv) (proc p port) has);
    among = λ p mv port has. at.among p mv port (subst (λ o. HasMove o p mv) (proc p port) has);
  }

  -- a component outside the set moves
  by_move : (s : State) (c p : ℕ) (phase : Phase) (rest : Proc) → AreStuck w s member → IsPort w.sites c p → (member c ≡ true → ⊥)
      → AreStuck w (moved s (chan_at w.sites c p) phase c rest) member
  by_move s c p phase rest stuck port out d is_in =
      as_it_was s (moved s (chan_at w.sites c p) phase c rest) d (stuck d is_in)
      (λ q here. at_other s.procs c d rest no_proc port.comp_from here.comp_from (λ e. out (subst (λ o. member o ≡ true) e is_in)))
      (λ q mv here has. at_other s.phases (chan_at w.sites c p) (chan_at w.sites d q) phase Idle (wired.chan_from c p port) (wired.chan_from d q here) (λ e. out ((stuck d is_in).among q mv here has c p port (sym e))))

  by_step : (s next : State) (c p k : ℕ) (mv : Move) (value : Option ℕ) → AreStuck w s member → Step w.sites s c p k mv value next → (member c ≡ true → ⊥) × AreStuck w next member
  by_step s next c p k mv value stuck step = (
    out,
    subst (λ t. AreStuck w t member) (sym step.next_is)
        (subst (λ j. AreStuck w (moved s j (phase_after (phase_at s k) mv value) c step.rest) member) (sym step.chan_is)
        (by_move s c p (phase_after (phase_at s k) mv value) step.rest stuck step.steps_at.is_port out)),
  )
    where
      out : member c ≡ true → ⊥
      out is_in = (stuck c is_in).still p step.steps_at

  -- a host changes the phase of an external port
  at_port : (s : State) (port : ℕ) (phase : Phase) → AreStuck w s member → 0 < port → port ≤ length w.ports → AreStuck w (with_phase s port phase) member
  at_port s port phase stuck from to d is_in =
      as_it_was s (with_phase s port phase) d (stuck d is_in) (λ q here. refl)
      (λ q mv here has. at_other s.phases port (chan_at w.sites d q) phase Idle from (wired.chan_from d q here) (λ e. let far = (stuck d is_in).inner q mv here has in omega (arith, e, to, far)))

  by_host : (s next : State) (verb : Verb) (port : ℕ) (value : Option ℕ) (reply : Reply) → AreStuck w s member → HostStep w s verb port value reply next → AreStuck w next member
  by_host s next verb port value reply stuck step =
      subst (λ t. AreStuck w t member) (sym step.next_is) (at_port s port (host_after verb value (phase_at s port)) stuck step.port_from step.port_to)

  follows : (s next : State) (e : Entry) → AreStuck w s member → Follows w s e next → Spares member e × AreStuck w next member
  follows s next (Fired who c p k mv value) stuck step = by_step s next c p k mv value stuck step
  follows s next (Host who verb port value reply) stuck step = (tt, by_host s next verb port value reply stuck step)
  follows s next (Rested who) stuck step = (tt, subst (λ t. AreStuck w t member) (sym step.1) stuck)

  run : (s last : State) (es : List Entry) → AreStuck w s member → Run w s es last → AllByRecursion (Spares member) es × AreStuck w last member
  run s last [] stuck at = (tt, subst (λ t. AreStuck w t member) (sym at) stuck)
  run s last (e ∷ es) stuck played =
      let first = follows s played.0 e stuck played.1 in
      let then = run played.0 last es first.1 played.2 in
      ((first.0, then.0), then.1)

pub stuck_stays : (w : Wiring) (member : ℕ → Bool) (s last : State) (es : List Entry) → WellWired w → AreStuck w s member → Run w s es last → AllByRecursion (Spares member) es × AreStuck w last member
stuck_stays w member s last es wired stuck played = run w wired member s last es stuck played
