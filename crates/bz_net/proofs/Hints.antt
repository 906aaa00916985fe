-- Which move a component has by the phase of its channel, and what it tells of its next moves, by the bits of its ports.
use Rattle.std.proofs.Common.{◌≡◌, ◌∙◌, ℕ, ◌-◌, List, [], Bool, true, false, Option, Some, refl, sym, ap, subst, get_or, arith}
use Rattle.std.specs.Prelude.{MatchBool, not}
use Rattle.std.proofs.lemmas.Bool.{false≢true}
use Rattle.std.proofs.lemmas.List.{get_or_read}
use Rattle.bz_model.specs.declared.channel.Move.{Move}
use Rattle.bz_model.specs.declared.channel.Move.TheVariants.{Ask, Take, Reply, Got}
use Rattle.bz_model.specs.declared.channel.Phase.{Phase}
use Rattle.bz_model.specs.declared.channel.Phase.TheVariants.{Idle, Asked, Taken, Replied, Broken}
use Rattle.bz_model.specs.Heads.{Component, Proc}
use Rattle.bz_model.specs.Nets.{Site, StepsAt, chan_at, passive_at}
use Rattle.bz_kinds.specs.Sure.{HasMove, WaitsAt}
use Rattle.bz_net.specs.Due.{HasStep, next_of}
use Rattle.bz_net.specs.Keeping.{comp_at, no_comp, phase_in, state_of}
use Rattle.bz_net.specs.Sides.{answers, sends}
use Rattle.bz_net.specs.Told.{Goes, IsTurning, NoneGoes, Sighted, flag_of, here_at, is_here}
use Rattle.bz_net.proofs.Sides.{sided-head}
use Rattle.bz_net.proofs.Stepping.{step_next}
use Rattle.bz_net.proofs.Ties.{proc_is}

pub none_waits : (c : Component) (here : List ℕ) (p : ℕ) → WaitsAt c.proc p → flag_of here p ≡ false → NoneGoes c here
none_waits c here p waits shut q to can =
    let (at, is) = waits q (flag_of here q) can in
    false≢true (sym shut ∙ ap (flag_of here) (sym at) ∙ is)

-- where it is known to wait, it doesn't move
pub waits_still : (c : Component) (here : List ℕ) (p : ℕ) (waits : Bool) → waits ≡ true → (waits ≡ true → WaitsAt c.proc p) → flag_of here p ≡ false → MatchBool (not waits) (Goes c here) (NoneGoes c here)
waits_still c here p true is at shut = none_waits c here p (at refl) shut
waits_still c here p false is at shut = absurd (cc)

-- what the move that comes next waits for is there, where it waits
here_is : (phase : Phase) (mv : Move) → next_of phase ≡ Some mv → is_here phase (answers mv) ≡ not (sends mv)
here_is Idle mv e = let q : Ask ≡ mv = cc in subst (λ (m : Move). is_here Idle (answers m) ≡ not (sends m)) q refl
here_is (Asked v) mv e = let q : Take ≡ mv = cc in subst (λ (m : Move). is_here (Asked v) (answers m) ≡ not (sends m)) q refl
here_is Taken mv e = let q : Reply ≡ mv = cc in subst (λ (m : Move). is_here Taken (answers m) ≡ not (sends m)) q refl
here_is (Replied v) mv e = let q : Got ≡ mv = cc in subst (λ (m : Move). is_here (Replied v) (answers m) ≡ not (sends m)) q refl
here_is Broken mv e = absurd (cc)

-- a component with a step at a port, on whose channel this move comes next
module _ (sites : List Site) (phases : List Phase) (comps : List Component) (heres : List (List ℕ)) (sighted : Sighted sites phases comps heres) (c p k : ℕ) (turning : IsTurning (comp_at comps c)) (steps : StepsAt sites (state_of phases comps) c p) (on : k ≡ chan_at sites c p) (mv : Move) (next : next_of (phase_in phases k) ≡ Some mv) where
  step : (value : Option ℕ) × HasStep sites (state_of phases comps) c p k mv value
  step = step_next sites phases comps heres sighted c p k (passive_at sites c p) (record { is_port = steps.is_port; on = sym on; sense = refl }) turning mv steps next

  pub has_next : HasMove (comp_at comps c).proc p mv
  has_next =
      let (value, (last, made)) = step in
      subst (λ (q : Proc). HasMove q p mv) (proc_is phases comps c) (made.moves.head, made.moves.on, sym made.moves.move_is)

  pub side : answers mv ≡ passive_at sites c p
  side =
      let (h, at, is) = has_next in let port = steps.is_port in
      ap answers (sym is) ∙ (sided-head (passive_at sites c) (comp_at comps c).proc.todo h at.0 (sighted.sides c port.comp_from port.comp_to)).0 ∙ ap (passive_at sites c) at.1

  pub is_told : flag_of (here_at heres c) p ≡ not (sends mv)
  is_told =
      sighted.told c p steps.is_port
      ∙ ap (λ (j : ℕ). is_here (phase_in phases j) (passive_at sites c p)) (sym on)
      ∙ ap (is_here (phase_in phases k)) (sym side)
      ∙ here_is (phase_in phases k) mv next

  -- by its node
  pub next_read : (x : Component) → x ≡ get_or comps (c - 1) x → HasMove x.proc p mv
  next_read x is =
      let from = steps.is_port.comp_from in let to = steps.is_port.comp_to in let n = sighted.comps_len in
      let same : x ≡ comp_at comps c = get_or_read comps (c - 1) x (omega (arith, from, to, n)) is no_comp in
      subst (λ (y : Component). HasMove y.proc p mv) (sym same) has_next

  pub told_read : (h : List ℕ) → h ≡ get_or heres (c - 1) h → flag_of h p ≡ not (sends mv)
  told_read h is =
      let from = steps.is_port.comp_from in let to = steps.is_port.comp_to in let n = sighted.heres_len in
      let same : h ≡ here_at heres c = get_or_read heres (c - 1) h (omega (arith, from, to, n)) is [] in
      ap (λ (words : List ℕ). flag_of words p) same ∙ is_told
