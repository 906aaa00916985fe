-- What is read of one node, and written to it, as the components and the bits of all nodes show it.
use Rattle.std.proofs.Common.{◌≡◌, ℕ, ◌-◌, Bool, true, false, List, length, get_or, set, IsTrue, ◌↔◌, refl, sym, ap, subst, ◌∙◌, arith}
use Rattle.std.specs.Prelude.{MatchBool}
use Rattle.std.proofs.lemmas.Bool.{false≢true}
use Rattle.std.proofs.lemmas.List.{map-set, get_or_read}
use Rattle.std.proofs.Math.ListN.{get_or-map}
use Rattle.std.proofs.Math.Seq.{map-set_same}
use Rattle.bz_model.specs.declared.channel.Phase.{Phase}
use Rattle.bz_model.specs.Heads.{Component, Proc, CanMove}
use Rattle.bz_model.specs.Nets.{Site, IsPort, StepsAt, chan_at, proc_at}
use Rattle.bz_net.specs.Keeping.{phase_in, proc_of, no_comp, state_of}
use Rattle.bz_net.specs.declared.node.Node.{Node}
use Rattle.bz_net.specs.Nodes.{comp_of, here_of, comps_of, heres_of}
use Rattle.bz_net.proofs.Ties.{proc_is}

-- x was read where component c lies
module _ (nodes : List Node) (c i : ℕ) (x : Node) (at : i ≡ c - 1) (is : x ≡ get_or nodes i x) where
  here : x ≡ get_or nodes (c - 1) x
  here = is ∙ ap (λ (k : ℕ). get_or nodes k x) at

  pub comp_read : x.comp ≡ get_or (comps_of nodes) (c - 1) x.comp
  comp_read = ap comp_of here ∙ sym (get_or-map comp_of nodes (c - 1) x)

  pub bits_read : x.here ≡ get_or (heres_of nodes) (c - 1) x.here
  bits_read = ap here_of here ∙ sym (get_or-map here_of nodes (c - 1) x)

  -- another one was put there
  pub node_comps : (y : Node) → comps_of (set nodes i y) ≡ set (comps_of nodes) (c - 1) y.comp
  node_comps y = map-set comp_of nodes i y ∙ ap (λ (k : ℕ). set (comps_of nodes) k y.comp) at

  pub node_heres : (y : Node) → heres_of (set nodes i y) ≡ set (heres_of nodes) (c - 1) y.here
  node_heres y = map-set here_of nodes i y ∙ ap (λ (k : ℕ). set (heres_of nodes) k y.here) at

  -- its component was changed
  module _ (comp : Component) where
    pub comps_changed : comps_of (set nodes i (record { here = x.here; comp = comp })) ≡ set (comps_of nodes) (c - 1) comp
    comps_changed = map-set comp_of nodes i _ ∙ ap (λ (k : ℕ). set (comps_of nodes) k comp) at

    pub heres_stay : heres_of (set nodes i (record { here = x.here; comp = comp })) ≡ heres_of nodes
    heres_stay = map-set_same here_of nodes i _ x (ap here_of is)

  -- its bits were changed
  module _ (here : List ℕ) where
    pub heres_changed : heres_of (set nodes i (record { here = here; comp = x.comp })) ≡ set (heres_of nodes) (c - 1) here
    heres_changed = map-set here_of nodes i _ ∙ ap (λ (k : ℕ). set (heres_of nodes) k here) at

    pub comps_stay : comps_of (set nodes i (record { here = here; comp = x.comp })) ≡ comps_of nodes
    comps_stay = map-set_same comp_of nodes i _ x (ap comp_of is)

-- a component that was read can move where its port's channel lets it
pub fires : (sites : List Site) (phases : List Phase) (comps : List Component) (c p k : ℕ) (x : Component) (b : Bool) → length comps ≡ length sites → IsPort sites c p → k ≡ chan_at sites c p → x ≡ get_or comps (c - 1) x → IsTrue b ↔ CanMove x.proc p (phase_in phases k) → MatchBool b (StepsAt sites (state_of phases comps) c p) (StepsAt sites (state_of phases comps) c p → ⊥)
fires sites phases comps c p k x b len port on is tells = decided b moves
  where
    proc_read : x.proc ≡ proc_at (state_of phases comps) c
    proc_read =
        let from = port.comp_from in let to = port.comp_to in
        ap proc_of (get_or_read comps (c - 1) x (omega (arith, from, to, len)) is no_comp) ∙ sym (proc_is phases comps c)

    moves : IsTrue b ↔ CanMove (proc_at (state_of phases comps) c) p (phase_in phases (chan_at sites c p))
    moves = subst (λ (o : Proc). IsTrue b ↔ CanMove o p (phase_in phases (chan_at sites c p))) proc_read (subst (λ (j : ℕ). IsTrue b ↔ CanMove x.proc p (phase_in phases j)) on tells)

    decided : (a : Bool) → IsTrue a ↔ CanMove (proc_at (state_of phases comps) c) p (phase_in phases (chan_at sites c p)) → MatchBool a (StepsAt sites (state_of phases comps) c p) (StepsAt sites (state_of phases comps) c p → ⊥)
    decided true t = record { is_port = port; can = t.0 refl }
    decided false t = λ steps. false≢true (t.1 steps.can)

-- a component that was read has a step where its port's channel lets it
pub can_read : (sites : List Site) (phases : List Phase) (comps : List Component) (c p k : ℕ) (x : Component) → length comps ≡ length sites → StepsAt sites (state_of phases comps) c p → k ≡ chan_at sites c p → x ≡ get_or comps (c - 1) x → CanMove x.proc p (phase_in phases k)
can_read sites phases comps c p k x len steps on is =
    let from = steps.is_port.comp_from in let to = steps.is_port.comp_to in
    let proc_read : x.proc ≡ proc_at (state_of phases comps) c = ap proc_of (get_or_read comps (c - 1) x (omega (arith, from, to, len)) is no_comp) ∙ sym (proc_is phases comps c) in
    subst (λ (j : ℕ). CanMove x.proc p (phase_in phases j)) (sym on) (subst (λ (o : Proc). CanMove o p (phase_in phases (chan_at sites c p))) (sym proc_read) steps.can)
