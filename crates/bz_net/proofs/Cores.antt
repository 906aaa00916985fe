-- What a core keeps is kept by each step and by each host command.
use Rattle.std.proofs.Common.{◌≡◌, ℕ, suc, ◌+◌, ◌-◌, ◌/◌, ◌<◌, ◌≤◌, ◌^◌, Bool, Option, None, List, [], ◌∷◌, ◌++◌, true, false, length, get_or, map, replicate, inl, inr, sym, ap, subst, ◌∙◌, arith, length-append}
use Rattle.std.proofs.lemmas.Bool.{cases_eq, cases_lt}
use Rattle.std.proofs.lemmas.List.{map-set, length-map, get_or_append_left, get_or_default, get_or_past, get_or_push, get_or_read}
use Rattle.bz_bits.specs.Row.{bit_of}
use Rattle.bz_model.specs.declared.channel.Chan.{Chan}
use Rattle.bz_model.specs.declared.channel.Move.{Move}
use Rattle.bz_model.specs.declared.channel.Move.TheVariants.{Ask, Take, Got}
use Rattle.bz_model.specs.declared.channel.Move.TheVariants as move
use Rattle.bz_model.specs.declared.channel.Phase.{Phase}
use Rattle.bz_model.specs.declared.channel.Phase.TheVariants.{Idle}
use Rattle.bz_model.specs.declared.event.Verb.{Verb}
use Rattle.bz_model.specs.declared.event.Reply.{Reply}
use Rattle.bz_model.specs.Phases.{phase_after}
use Rattle.bz_model.specs.Heads.{Component, HasOneHead, Moves, Proc}
use Rattle.bz_model.specs.Hosts.{host_after, refusal_at, HostStep}
use Rattle.bz_model.specs.Nets.{Site, Wiring, State, Step, moved, site_at, chan_in}
use Rattle.bz_flat.specs.declared.flat.Ends.{Ends}
use Rattle.bz_flat.specs.declared.flat.FlatComp.{FlatComp}
use Rattle.bz_flat.specs.Flats.{site_of}
use Rattle.bz_flat.specs.Wires.{WellWired, EndsOf, ends_in}
use Rattle.bz_net.specs.Keeping.{Tied, Placed, ReadsChans, RefreshedEnds, CommandedAt, MarksReady, Started, StartsUnless, StartsWell, comp_at, no_comp, proc_of, state_of, phase_in}
use Rattle.bz_net.specs.declared.node.Node.{Node}
use Rattle.bz_net.specs.Nodes.{comp_of, comps_of}
use Rattle.bz_net.specs.Told.{Told, AreBlank, HasChans, Turned, Retold, Sighted, StaysSighted, HostSighted, here_at}
use Rattle.bz_net.specs.Core.{CoreSound}
use Rattle.bz_net.proofs.Sites.{site_at_map}
use Rattle.bz_net.proofs.Nodes.{comp_read}
use Rattle.bz_net.proofs.Opening.{site_here, start_comp, tied_opening}
use Rattle.bz_net.proofs.Ties.{proc_is, tied_step}
use Rattle.bz_net.proofs.Hosts.{tied_command, side_from}
use Rattle.bz_net.proofs.Readiness.{marks_after, changed_by_step, changed_by_host}
use Rattle.bz_net.proofs.Soundness.{placed_from}
use Rattle.bz_net.proofs.Soles.{SameStep, same_step}
use Rattle.bz_model.specs.Clashes.{IsAsked}
use Rattle.bz_net.specs.Noted.{AskedBefore}
use Rattle.bz_net.proofs.Clashing.{asked_before}
use Rattle.bz_net.proofs.Moving.{busy_before}
use Rattle.bz_net.proofs.Telling.{chans_kept, told_kept, told_opening, sighted_from, stays_sighted, host_sighted}

asked_by : (sites : List Site) (phases phases' : List Phase) (mv : Move) → ((mv ≡ Ask → ⊥) → (d q : ℕ) → IsAsked sites phases' d q → IsAsked sites phases d q) → AskedBefore sites phases phases' mv
asked_by sites phases phases' Ask before = tt
asked_by sites phases phases' Take before = before (λ e. cc)
asked_by sites phases phases' move.Reply before = before (λ e. cc)
asked_by sites phases phases' Got before = before (λ e. cc)

module _ (w : Wiring) (phases : List Phase) (comps : List Component) (heres : List (List ℕ)) (ends : List Ends) (old : List Bool) (core : CoreSound w phases comps heres ends old) where
  pub core_placed : Placed w.sites phases comps
  core_placed = placed_from w phases comps core.wired core.tied

  pub core_reads : ReadsChans w.sites phases
  core_reads = record { chan_from = core_placed.chan_from; chan_to = core_placed.chan_to; ports_few = core_placed.ports_few }

  pub core_sighted : Sighted w.sites phases comps heres
  core_sighted = sighted_from w phases comps heres core.tied core.chans_of core.told core.few

  pub core_stays : (c p : ℕ) → StaysSighted w.sites phases comps heres c p
  core_stays c p = stays_sighted w phases comps heres c p core.wired core.tied core.chans_of core.told core.few

  pub core_host : (verb : Verb) (port : ℕ) (value : Option ℕ) → 0 < port → port ≤ length w.ports → refusal_at w verb port value ≡ None → HostSighted w.sites phases comps heres port (host_after verb value (phase_in phases port))
  core_host verb port value from to agreed = host_sighted w phases comps heres verb port value core.wired core.tied core.chans_of core.told core.few from to agreed

  module _ (phases' : List Phase) (comps' : List Component) (heres' : List (List ℕ)) (new : List Bool) (c p k : ℕ) (mv : Move) (value : Option ℕ) (does : Turned w.sites phases comps heres phases' comps' heres' c p k mv value) (refreshed : RefreshedEnds w.sites (state_of phases' comps') old new (ends_in ends k)) where
    core_state : state_of phases' comps' ≡ moved (state_of phases comps) k (phase_after (phase_in phases k) mv value) c does.rest.proc
    core_state =
        let procs = ap (map proc_of) does.comps_is ∙ map-set proc_of comps (c - 1) does.rest in
        λ i. record { phases = does.phases_is i; procs = procs i }

    pub core_step : Step w.sites (state_of phases comps) c p k mv value (state_of phases' comps')
    core_step = record {
      steps_at = does.steps_at;
      chan_is = does.chan_is;
      rest = does.rest.proc;
      moves = subst (λ o. Moves o p (phase_in phases k) mv value does.rest.proc) (sym (proc_is phases comps c)) does.moves;
      next_is = core_state;
    }

    -- and there was no other step at this port
    pub core_sole : (j : ℕ) (mw : Move) (other : Option ℕ) (next : State) → Step w.sites (state_of phases comps) c p j mw other next → SameStep k j mv mw value other (state_of phases' comps') next
    core_sole j mw other next step =
        same_step w.sites (state_of phases comps) c p k j mv mw value other (state_of phases' comps') next (subst (λ (q : Proc). HasOneHead q.todo) (sym (proc_is phases comps c)) does.one) core_step step

    k_from : 0 < k
    k_from = subst (λ j. 0 < j) (sym does.chan_is) (core.wired.chan_from c p does.steps_at.is_port)

    k_to : k ≤ length phases
    k_to = let to = core.wired.chan_to c p does.steps_at.is_port in let len = core.tied.phases_len in let is = does.chan_is in omega (arith, to, len, is)

    c_to : c ≤ length comps
    c_to = let to = does.steps_at.is_port.comp_to in let len = core.tied.comps_len in omega (arith, to, len)

    -- where it was no request, no port is asked that wasn't
    pub core_met : AskedBefore w.sites phases phases' mv
    core_met =
        asked_by w.sites phases phases' mv
        (λ no_ask d q x. asked_before w phases k (phase_after (phase_in phases k) mv value) core.wired k_from
        (busy_before w.sites phases comps heres c p k mv value does.rest core_sighted does.steps_at.is_port does.chan_is does.moves does.turns no_ask) d q
        (subst (λ (f : List Phase). IsAsked w.sites f d q) does.phases_is x))

    pub core_moved : CoreSound w phases' comps' heres' ends new
    core_moved = record {
      wired = core.wired;
      ends_of = core.ends_of;
      tied = rw (does.phases_is, does.comps_is) (tied_step w phases comps c p k mv value does.rest core.wired core.tied does.steps_at.is_port does.chan_is does.moves does.turns);
      chans_of = rw does.comps_is (chans_kept w.sites comps c does.rest core.chans_of does.same_chans does.steps_at.is_port.comp_from c_to);
      told = rw (does.phases_is) (told_kept w phases heres heres' k (phase_after (phase_in phases k) mv value) core.wired core.tied.phases_len core.told does.retold k_from k_to);
      few = λ d. subst (λ (n : ℕ). n ≤ 2 ^ 26) (sym (does.retold.room d)) (core.few d);
      ready = marks_after w (state_of phases comps) (state_of phases' comps') k ends old new core.ends_of core.wired (rw core_state (changed_by_step w.sites (state_of phases comps) c p k (phase_after (phase_in phases k) mv value) does.rest.proc k_from does.steps_at.is_port does.chan_is)) core.ready refreshed;
    }

  module _ (phases' : List Phase) (heres' : List (List ℕ)) (new : List Bool) (verb : Verb) (port : ℕ) (value : Option ℕ) (reply : Reply) (from : 0 < port) (to : port ≤ length w.ports) (agreed : refusal_at w verb port value ≡ None) (does : CommandedAt w.sites ends comps phases phases' old new verb port value reply) (again : Retold w.sites heres heres' port (host_after verb value (phase_in phases port))) where
    port_to : port ≤ length phases
    port_to = let len = core.tied.phases_len in let ports = core.wired.ports_to in omega (arith, to, len, ports)

    pub core_host_step : HostStep w (state_of phases comps) verb port value reply (state_of phases' comps)
    core_host_step = record {
      port_from = from;
      port_to = to;
      agreed = agreed;
      reply_is = does.reply_is;
      next_is = ap (λ f. state_of f comps) does.phases_is;
    }

    pub core_commanded : CoreSound w phases' comps heres' ends new
    core_commanded = record {
      wired = core.wired;
      ends_of = core.ends_of;
      tied = subst (λ f. Tied w f comps) (sym does.phases_is) (tied_command w phases comps verb port value core.wired core.tied from to (side_from w verb port value agreed));
      chans_of = core.chans_of;
      told = subst (λ f. Told w f heres') (sym does.phases_is) (told_kept w phases heres heres' port (host_after verb value (phase_in phases port)) core.wired core.tied.phases_len core.told again from port_to);
      few = λ d. subst (λ (n : ℕ). n ≤ 2 ^ 26) (sym (again.room d)) (core.few d);
      ready = marks_after w (state_of phases comps) (state_of phases' comps) port ends old new core.ends_of core.wired (rw does.phases_is (changed_by_host w.sites (state_of phases comps) port (host_after verb value (phase_in phases port)) from)) core.ready does.refreshed;
    }

-- equal lists are as sound, and a row that marks all is as good as another
pub core_same : (w w' : Wiring) (phases phases' : List Phase) (comps comps' : List Component) (heres heres' : List (List ℕ)) (ends ends' : List Ends) (old new : List Bool) → w' ≡ w → phases' ≡ phases → comps' ≡ comps → heres' ≡ heres → ends' ≡ ends → CoreSound w phases comps heres ends old → MarksReady w (state_of phases comps) new → CoreSound w' phases' comps' heres' ends' new
core_same w w' phases phases' comps comps' heres heres' ends ends' old new e f g h i core ready = rw (e, f, g, h, i) (record {
  wired = core.wired;
  ends_of = core.ends_of;
  tied = core.tied;
  chans_of = core.chans_of;
  told = core.told;
  few = core.few;
  ready = ready;
})

-- at the opening
module _ (w : Wiring) (phases : List Phase) (comps : List Component) (heres : List (List ℕ)) (wired : WellWired w) (idle : phases ≡ replicate (length w.chans) Idle) (started : Started w.chans w.sites comps (length w.sites)) (blank : AreBlank w.sites heres (length w.sites)) where
  tied_first : Tied w phases comps
  tied_first = rw idle (tied_opening w comps started)

  chans_first : HasChans w.sites comps
  chans_first c from to = ap (λ (x : Component). length x.chans) (started.each c from to) ∙ length-map (site_at w.sites c).chans (chan_in w.chans)

  told_first : Told w phases heres
  told_first = rw idle (told_opening w heres blank.len (λ c from to. ((let e = blank.words c from to in omega (arith, e)), λ p. blank.none c p from to)))

  few_first : (c : ℕ) → length (here_at heres c) ≤ 2 ^ 26
  few_first c = elim (cases_lt (c - 1) (length heres)) [
    | inl lt ↦
        let e : suc (c - 1) - 1 ≡ c - 1 = omega arith in
        let n = blank.len in
        let words = blank.words (suc (c - 1)) (omega arith) (omega (arith, lt, n)) in
        let few = wired.ports_few (suc (c - 1)) in
        let same = ap (λ (i : ℕ). length (get_or heres i [])) e in
        omega (arith, words, few, same)
    | inr past ↦ let none = ap length (get_or_past heres (c - 1) [] past) in omega (arith, none)
  ]

  pub sighted_first : Sighted w.sites phases comps heres
  sighted_first = sighted_from w phases comps heres tied_first chans_first told_first few_first

  pub core_first : (ends : List Ends) (row : List Bool) → EndsOf w ends → MarksReady w (state_of phases comps) row → CoreSound w phases comps heres ends row
  core_first ends row ends_of ready = record { wired = wired; ends_of = ends_of; tied = tied_first; chans_of = chans_first; told = told_first; few = few_first; ready = ready }

-- one more component has its bits
pub blank_more : (xs : List FlatComp) (heres : List (List ℕ)) (i : ℕ) (x : FlatComp) (words : List ℕ) → AreBlank (map site_of xs) heres i → i < length xs → x ≡ get_or xs i x → length words ≡ length x.chans.items / 64 + 1 → ((p : ℕ) → bit_of words p ≡ 0) → AreBlank (map site_of xs) (heres ++ words ∷ []) (i + 1)
blank_more xs heres i x words before lt is long none = record {
  len = simp length-append (omega (arith, before.len));
  words = λ c from to. elim (cases_eq c (i + 1)) [
    | inl last ↦ ap length (at_end c last) ∙ long ∙ ap (λ (s : Site). length s.chans / 64 + 1) (sym (here c last))
    | inr earlier ↦ ap length (at_front c from (omega (arith, to, earlier))) ∙ before.words c from (omega (arith, to, earlier))
  ];
  none = λ c p from to. elim (cases_eq c (i + 1)) [
    | inl last ↦ ap (λ (l : List ℕ). bit_of l p) (at_end c last) ∙ none p
    | inr earlier ↦ ap (λ (l : List ℕ). bit_of l p) (at_front c from (omega (arith, to, earlier))) ∙ before.none c p from (omega (arith, to, earlier))
  ];
}
  where
    at_end : (c : ℕ) → c ≡ i + 1 → here_at (heres ++ words ∷ []) c ≡ words
    at_end c last = get_or_push heres words [] (c - 1) (let len = before.len in omega (arith, len, last))

    at_front : (c : ℕ) → 0 < c → c ≤ i → here_at (heres ++ words ∷ []) c ≡ here_at heres c
    at_front c from to = get_or_append_left heres (words ∷ []) [] (c - 1) (let len = before.len in omega (arith, len, from, to))

    here : (c : ℕ) → c ≡ i + 1 → site_at (map site_of xs) c ≡ site_of x
    here c last =
        let e : c - 1 ≡ i = omega (arith, last) in
        site_at_map xs c x (omega (arith, last)) (omega (arith, last, lt)) (subst (λ (j : ℕ). x ≡ get_or xs j x) (sym e) is)

-- a component that lies where the i-th is, and whose flag is not raised
pub unmoved_here : (chans : List Chan) (xs : List FlatComp) (i : ℕ) (x : FlatComp) (well : StartsWell chans (map site_of xs)) (lt : i < length xs) (is : x ≡ get_or xs i x) (nodes : List Node) (moved : List Bool) (y : Node)
    → StartsUnless chans (map site_of xs) (comps_of nodes) moved → length nodes ≡ length xs → y ≡ get_or nodes i y → get_or moved i false ≡ false → y.comp ≡ start_comp chans (site_of x)
unmoved_here chans xs i x well lt is nodes moved y unless each lies unmoved =
    let e : i + 1 - 1 ≡ i = omega arith in
    let count = length-map xs site_of in
    let comps = length-map nodes comp_of in
    let long = unless.len in
    let flag : get_or moved (i + 1 - 1) true ≡ false = ap (λ (j : ℕ). get_or moved j true) e ∙ get_or_default moved i true false (omega (arith, long, count, lt)) ∙ unmoved in
    let read : y.comp ≡ comp_at (comps_of nodes) (i + 1) = get_or_read (comps_of nodes) (i + 1 - 1) y.comp (omega (arith, each, comps, lt)) (comp_read nodes (i + 1) i y (sym e) lies) no_comp in
    read ∙ unless.each (i + 1) (omega arith) (omega (arith, count, lt)) flag ∙ ap (start_comp chans) (site_here chans xs i x well lt is)
