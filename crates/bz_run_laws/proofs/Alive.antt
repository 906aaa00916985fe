-- What each state of a run keeps, from the opening on: phases are tied to components, and each component goes on in turn.
use Rattle.std.proofs.Common.{◌≡◌, ℕ, zero, suc, ◌-◌, ◌<◌, ◌≤◌, false, Option, List, [], ◌∷◌, length, map, get_or, set, inl, inr, refl, sym, ap, subst, ◌∙◌, arith, length-set}
use Rattle.std.proofs.lemmas.Bool.{cases_eq}
use Rattle.std.proofs.lemmas.List.{length-map, length-replicate, map-set}
use Rattle.bz_model.specs.declared.channel.Move.{Move}
use Rattle.bz_model.specs.declared.channel.Phase.{Phase}
use Rattle.bz_model.specs.declared.event.Entry.{Entry}
use Rattle.bz_model.specs.declared.event.Entry.TheVariants.{Fired, Host, Rested}
use Rattle.bz_model.specs.Heads.{Component, HasOneHead, Moves, Proc, opens}
use Rattle.bz_model.specs.Nets.{State, Step, Wiring, chan_in, no_site, opening, proc_at, site_at}
use Rattle.bz_model.specs.Runs.{Follows, Run}
use Rattle.bz_flat.specs.Wires.{WellWired}
use Rattle.bz_net.specs.Keeping.{Started, Tied, comp_at, no_comp, phase_in, proc_of, state_of}
use Rattle.bz_net.specs.Unbroken.{IsUnbroken, UnbrokenRun}
use Rattle.bz_net.proofs.Hosts.{side_from, tied_command}
use Rattle.bz_net.proofs.Opening.{start_comp, state_opening, tied_opening}
use Rattle.bz_net.proofs.Ties.{at_other, at_same, proc_is, tied_step}
use Rattle.bz_run_laws.proofs.Lively.{Lively, lively-start, lively-then, one-head, turned, turns}

pub record Alive (w : Wiring) (s : State) : Type 0 where
  pub comps : List Component
  pub procs_are : s.procs ≡ map proc_of comps
  pub tied : Tied w s.phases comps
  pub ports : (c : ℕ) → 0 < c → c ≤ length w.sites → length (comp_at comps c).open_ports ≡ suc (length (site_at w.sites c).chans)
  pub lively : (c : ℕ) → 0 < c → c ≤ length w.sites → Lively (comp_at comps c)

-- ---- the opening

get-map : {A B : Type 0} (f : A → B) (xs : List A) (i : ℕ) (d : A) (e : B) → i < length xs → get_or (map f xs) i e ≡ f (get_or xs i d)
get-map f [] i d e lt = absurd (omega arith)
get-map f (x ∷ xs) zero d e lt = refl
get-map f (x ∷ xs) (suc i) d e lt = get-map f xs i d e (omega arith)

module _ (w : Wiring) (wired : WellWired w) where
  abbrev begun : List Component
  begun = map (start_comp w.chans) w.sites

  begun-at : (c : ℕ) → 0 < c → c ≤ length w.sites → comp_at begun c ≡ start_comp w.chans (site_at w.sites c)
  begun-at c from to = get-map (start_comp w.chans) w.sites (c - 1) no_site no_comp (omega arith)

  started : Started w.chans w.sites begun (length w.sites)
  started = record { len = length-map w.sites (start_comp w.chans); each = begun-at }

  pub alive-opening : Alive w (opening w)
  alive-opening = subst (Alive w) (state_opening w begun started) (record {
    comps = begun;
    procs_are = refl;
    tied = tied_opening w begun started;
    ports = λ c from to.
        let site = site_at w.sites c in
        ap (λ (x : Component). length x.open_ports) (begun-at c from to)
        ∙ length-replicate (suc (length (map (chan_in w.chans) site.chans))) false
        ∙ ap suc (length-map site.chans (chan_in w.chans));
    lively = λ c from to.
        let site = site_at w.sites c in
        subst Lively (sym (begun-at c from to)) (lively-start site.kind site.sizes (map (chan_in w.chans) site.chans) (wired.rows c from to));
  })

  -- ---- a step of a component

  module _ (phases : List Phase) (comps : List Component) (tied : Tied w phases comps)
      (ports : (c : ℕ) → 0 < c → c ≤ length w.sites → length (comp_at comps c).open_ports ≡ suc (length (site_at w.sites c).chans))
      (lively : (c : ℕ) → 0 < c → c ≤ length w.sites → Lively (comp_at comps c))
      (c p k : ℕ) (mv : Move) (value : Option ℕ) (next : State) (step : Step w.sites (state_of phases comps) c p k mv value next) where
    moves : Moves (comp_at comps c).proc p (phase_in phases k) mv value step.rest
    moves = subst (λ (q : Proc). Moves q p (phase_in phases k) mv value step.rest) (proc_is phases comps c) step.moves

    abbrev fresh : Component
    fresh = turned (comp_at comps c) p mv step.rest

    abbrev comps' : List Component
    comps' = set comps (c - 1) fresh

    lively-here : Lively (comp_at comps c)
    lively-here = lively c step.steps_at.is_port.comp_from step.steps_at.is_port.comp_to

    within : p < length (comp_at comps c).open_ports
    within =
        let is_port = step.steps_at.is_port in
        let to = is_port.port_to in
        let count = ports c is_port.comp_from is_port.comp_to in
        omega (arith, to, count)

    comp-here : comp_at comps' c ≡ fresh
    comp-here =
        let is_port = step.steps_at.is_port in
        let to = is_port.comp_to in
        let len = tied.comps_len in
        at_same comps c fresh no_comp is_port.comp_from (omega (arith, to, len))

    comp-there : (d : ℕ) → 0 < d → (d ≡ c → ⊥) → comp_at comps' d ≡ comp_at comps d
    comp-there d from ne = at_other comps c d fresh no_comp step.steps_at.is_port.comp_from from ne

    alive-step : Alive w next
    alive-step = subst (Alive w) (sym step.next_is) (record {
      comps = comps';
      procs_are = sym (map-set proc_of comps (c - 1) fresh);
      tied = tied_step w phases comps c p k mv value fresh wired tied step.steps_at.is_port step.chan_is moves
          (turns (comp_at comps c) p (phase_in phases k) mv value step.rest lively-here within moves);
      ports = λ d from to. elim (cases_eq d c) [
        | inl is ↦
            ap (λ e. length (comp_at comps' e).open_ports) is ∙ ap (λ (x : Component). length x.open_ports) comp-here
            ∙ length-set (comp_at comps c).open_ports p (opens mv) ∙ ap (λ e. length (comp_at comps e).open_ports) (sym is) ∙ ports d from to
        | inr ne ↦ ap (λ (x : Component). length x.open_ports) (comp-there d from ne) ∙ ports d from to
      ];
      lively = λ d from to. elim (cases_eq d c) [
        | inl is ↦ subst (λ e. Lively (comp_at comps' e)) (sym is) (subst Lively (sym comp-here) (lively-then (comp_at comps c) p (phase_in phases k) mv value step.rest lively-here within moves))
        | inr ne ↦ subst Lively (sym (comp-there d from ne)) (lively d from to)
      ];
    })

  -- the state is that of its components
  pub state-is : (s : State) (alive : Alive w s) → state_of s.phases alive.comps ≡ s
  state-is s alive = λ i. record { phases = s.phases; procs = sym alive.procs_are i }

  pub alive-follows : (s : State) (e : Entry) (next : State) → Alive w s → Follows w s e next → Alive w next
  alive-follows s (Fired who c p k mv value) next alive step =
      alive-step s.phases alive.comps alive.tied alive.ports alive.lively c p k mv value next (subst (λ (r : State). Step w.sites r c p k mv value next) (sym (state-is s alive)) step)
  alive-follows s (Host who verb port value reply) next alive step = subst (Alive w) (sym step.next_is) (record {
    comps = alive.comps;
    procs_are = alive.procs_are;
    tied = tied_command w s.phases alive.comps verb port value wired alive.tied step.port_from step.port_to (side_from w verb port value step.agreed);
    ports = alive.ports;
    lively = alive.lively;
  })
  alive-follows s (Rested who) next alive (rest, same) = subst (Alive w) (sym same) alive

  pub alive-run : (s : State) (es : List Entry) (last : State) → Alive w s → Run w s es last → Alive w last
  alive-run s [] last alive is = subst (Alive w) (sym is) alive
  alive-run s (e ∷ es) last alive (next, follows, run) = alive-run next es last (alive-follows s e next alive follows) run

  -- ---- no channel is broken

  pub unbroken : (s : State) → Alive w s → IsUnbroken s
  unbroken s alive = alive.tied.kept

  pub unbroken-run : (s : State) (es : List Entry) (last : State) → Alive w s → Run w s es last → UnbrokenRun w s es last
  unbroken-run s [] last alive is = (unbroken s alive, is)
  unbroken-run s (e ∷ es) last alive (next, follows, run) = (unbroken s alive, next, follows, unbroken-run next es last (alive-follows s e next alive follows) run)

  -- a component has one move at a port
  pub one-head-at : (s : State) (c : ℕ) → Alive w s → 0 < c → c ≤ length w.sites → HasOneHead (proc_at s c).todo
  one-head-at s c alive from to =
      let at : proc_at (state_of s.phases alive.comps) c ≡ (comp_at alive.comps c).proc = proc_is s.phases alive.comps c in
      let here : HasOneHead (proc_at (state_of s.phases alive.comps) c).todo = subst (λ (q : Proc). HasOneHead q.todo) (sym at) (one-head (comp_at alive.comps c) (alive.lively c from to)) in
      subst (λ (r : State). HasOneHead (proc_at r c).todo) (state-is s alive) here
