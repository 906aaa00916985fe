-- What a run of the whole is for a part is a run of the part.
use Rattle.std.proofs.Common.{◌≡◌, ◌≢◌, ℕ, zero, suc, ◌-◌, ◌<◌, ◌≤◌, Option, Some, None, List, [], ◌∷◌, length, map, replicate, get_or, set, inl, inr, refl, sym, ap, subst, ◌∙◌, arith}
use Rattle.std.specs.Prelude.{not}
use Rattle.std.specs.List.{AllByRecursion, cons_option}
use Rattle.std.specs.Option.{option_map}
use Rattle.std.proofs.lemmas.Bool.{cases_lt}
use Rattle.std.proofs.lemmas.List.{ext_get_or, get_or-map, length-map, length-replicate}
use Rattle.bz_model.specs.declared.channel.Chan.{Chan}
use Rattle.bz_model.specs.declared.channel.Move.{Move}
use Rattle.bz_model.specs.declared.channel.Phase.{Phase}
use Rattle.bz_model.specs.declared.channel.Phase.TheVariants.{Idle, Broken}
use Rattle.bz_model.specs.declared.event.Who.{Who}
use Rattle.bz_model.specs.declared.event.Verb.{Verb}
use Rattle.bz_model.specs.declared.event.Reply.{Reply as HostReply}
use Rattle.bz_model.specs.declared.event.Entry.{Entry}
use Rattle.bz_model.specs.declared.event.Entry.TheVariants.{Fired, Host, Rested}
use Rattle.bz_model.specs.Entries.{HasWho, IsHost, IsWho}
use Rattle.bz_model.specs.Phases.{incoming, phase_after}
use Rattle.bz_model.specs.Heads.{CanMove, Moves, Proc, carried}
use Rattle.bz_model.specs.Processes.{start_of}
use Rattle.bz_model.specs.Nets.{Site, Wiring, State, IsPort, Step, chan_at, chan_in, moved, no_proc, no_site, opening, phase_at, proc_at, site_at, start_at}
use Rattle.bz_model.specs.Hosts.{HostStep, host_after, port_is_passive, refusal, reply_to}
use Rattle.bz_model.specs.Runs.{Follows, Rest, Run}
use Rattle.bz_model.specs.Widths.{FitsOn}
use Rattle.bz_flat.specs.Wires.{WellWired}
use Rattle.bz_net.specs.Sides.{answers}
use Rattle.bz_net.proofs.Fitting.{Fits, carries_step, fits_follows, fits_opening}
use Rattle.bz_net.proofs.Ties.{at_same}
use Rattle.bz_run_laws.specs.Embeddings.{Embedding, IsPartOf, answered, entries_in, entry_in, firing_in, given, in_part, in_whole, placed, state_in, surroundings, verb_of}
use Rattle.bz_run_laws.proofs.Alive.{Alive, alive-follows, alive-opening, unbroken}
use Rattle.bz_run_laws.proofs.Numbers.{elsewhere, found, here, read, some-is, there}
use Rattle.bz_run_laws.proofs.Surrounded.{agreed, plays}
use Rattle.bz_run_laws.proofs.Telling.{end-of}

-- an entry that there is leads on, and where there is none all stays
abbrev Leads : Wiring → Option Entry → State → State → Type 0
Leads w None s next = next ≡ s
Leads w (Some e) s next = Follows w s e next

idle-at : (n i : ℕ) → get_or (replicate n Idle) i Idle ≡ Idle
idle-at zero i = refl
idle-at (suc n) zero = refl
idle-at (suc n) (suc i) = idle-at n i

module _ (part whole : Wiring) (e : Embedding) (own : WellWired part) (wired : WellWired whole) (is : IsPartOf part whole e) where
  -- ---- components and channels of the part

  abbrev comp : ℕ → ℕ
  comp c = in_whole e.comps c

  abbrev chan : ℕ → ℕ
  chan k = in_whole e.chans k

  found-chan : (k j : ℕ) → 0 < k → k ≤ length part.chans → chan k ≡ j → in_part e.chans j ≡ Some k
  found-chan k j from to at = ap (in_part e.chans) (sym at) ∙ found e.chans (length part.chans) (length whole.chans) is.chans k from to

  -- component c of the part is component d of the whole
  module _ (c d p : ℕ) (from : 0 < c) (to : c ≤ length part.sites) (at : comp c ≡ d) where
    site-is : site_at whole.sites d ≡ placed e (site_at part.sites c)
    site-is = ap (site_at whole.sites) (sym at) ∙ is.sites c from to

    ports-are : length (site_at whole.sites d).chans ≡ length (site_at part.sites c).chans
    ports-are = ap (λ (s : Site). length s.chans) site-is ∙ length-map (site_at part.sites c).chans (in_whole e.chans)

    port-of-part : IsPort whole.sites d p → IsPort part.sites c p
    port-of-part port = record { comp_from = from; comp_to = to; port_from = port.port_from; port_to = let le = port.port_to in let same = ports-are in omega (arith, le, same) }

    port-of-whole : IsPort part.sites c p → IsPort whole.sites d p
    port-of-whole port = record {
      comp_from = subst (λ n. 0 < n) at (is.comps.from c from to);
      comp_to = subst (λ n. n ≤ length whole.sites) at (is.comps.to c from to);
      port_from = port.port_from;
      port_to = let le = port.port_to in let same = ports-are in omega (arith, le, same);
    }

    chan-is : IsPort part.sites c p → chan_at whole.sites d p ≡ chan (chan_at part.sites c p)
    chan-is port =
        let p-from = port.port_from in
        let p-to = port.port_to in
        ap (λ (s : Site). get_or s.chans (p - 1) 0) site-is
        ∙ get_or-map (in_whole e.chans) (site_at part.sites c).chans (p - 1) 0 0 (omega (arith, p-from, p-to))

  -- ---- states

  phase-is : (s : State) (k j : ℕ) → 0 < k → k ≤ length part.chans → chan k ≡ j → phase_at (state_in e s) k ≡ phase_at s j
  phase-is s k j from to at = read e.chans (length part.chans) (length whole.chans) is.chans (phase_at s) k Idle from to ∙ ap (phase_at s) at

  proc-is : (s : State) (c d : ℕ) → 0 < c → c ≤ length part.sites → comp c ≡ d → proc_at (state_in e s) c ≡ proc_at s d
  proc-is s c d from to at = read e.comps (length part.sites) (length whole.sites) is.comps (proc_at s) c no_proc from to ∙ ap (proc_at s) at

  -- ---- the opening

  less : (i : ℕ) → suc i - 1 ≡ i
  less i = omega arith

  carries-same : (c : ℕ) → 0 < c → c ≤ length part.sites → map (chan_in whole.chans) (map (in_whole e.chans) (site_at part.sites c).chans) ≡ map (chan_in part.chans) (site_at part.sites c).chans
  carries-same c from to =
      let ks = (site_at part.sites c).chans in
      let d : Chan = chan_in [] 0 in
      let outer = length-map (map (in_whole e.chans) ks) (chan_in whole.chans) in
      let inner = length-map ks (in_whole e.chans) in
      ext_get_or d (map (chan_in whole.chans) (map (in_whole e.chans) ks)) (map (chan_in part.chans) ks) (outer ∙ inner ∙ sym (length-map ks (chan_in part.chans))) (λ i lt.
      let within : i < length ks = omega (arith, lt, outer, inner) in
      let port : IsPort part.sites c (suc i) = record { comp_from = from; comp_to = to; port_from = omega arith; port_to = omega (arith, within) } in
      let k = chan_at part.sites c (suc i) in
      let at : get_or ks i 0 ≡ k = ap (λ j. get_or ks j 0) (sym (less i)) in
      get_or-map (chan_in whole.chans) (map (in_whole e.chans) ks) i 0 d (omega (arith, within, inner))
      ∙ ap (chan_in whole.chans) (get_or-map (in_whole e.chans) ks i 0 0 within ∙ ap (in_whole e.chans) at)
      ∙ is.carry k (own.chan_from c (suc i) port) (own.chan_to c (suc i) port)
      ∙ ap (chan_in part.chans) (sym at)
      ∙ sym (get_or-map (chan_in part.chans) ks i 0 d within))

  abbrev start-on : List Chan → Site → Proc
  start-on chans site = (start_of site.kind site.sizes chans).proc

  start-is : (c : ℕ) → 0 < c → c ≤ length part.sites → proc_at (opening whole) (comp c) ≡ start_at part.chans (site_at part.sites c)
  start-is c from to =
      let n = comp c in
      let n-from = is.comps.from c from to in
      let n-to = is.comps.to c from to in
      get_or-map (start_at whole.chans) whole.sites (n - 1) no_site no_proc (omega (arith, n-from, n-to))
      ∙ ap (start_at whole.chans) (is.sites c from to)
      ∙ ap (λ chans. start-on chans (site_at part.sites c)) (carries-same c from to)

  opening-procs : map (proc_at (opening whole)) e.comps ≡ map (start_at part.chans) part.sites
  opening-procs =
      let mapped = length-map e.comps (proc_at (opening whole)) in
      let len = is.comps.len in
      let mine = length-map part.sites (start_at part.chans) in
      ext_get_or no_proc (map (proc_at (opening whole)) e.comps) (map (start_at part.chans) part.sites) (mapped ∙ len ∙ sym mine) (λ i lt.
      let to : suc i ≤ length part.sites = omega (arith, lt, mapped, len) in
      ap (λ j. get_or (map (proc_at (opening whole)) e.comps) j no_proc) (sym (less i))
      ∙ read e.comps (length part.sites) (length whole.sites) is.comps (proc_at (opening whole)) (suc i) no_proc (omega arith) to
      ∙ start-is (suc i) (omega arith) to
      ∙ sym (get_or-map (start_at part.chans) part.sites (suc i - 1) no_site no_proc (omega (arith, to)))
      ∙ ap (λ j. get_or (map (start_at part.chans) part.sites) j no_proc) (less i))

  opening-phases : map (phase_at (opening whole)) e.chans ≡ replicate (length part.chans) Idle
  opening-phases =
      let mapped = length-map e.chans (phase_at (opening whole)) in
      let len = is.chans.len in
      ext_get_or Idle (map (phase_at (opening whole)) e.chans) (replicate (length part.chans) Idle) (mapped ∙ len ∙ sym (length-replicate (length part.chans) Idle)) (λ i lt.
      get_or-map (phase_at (opening whole)) e.chans i 0 Idle (omega (arith, lt, mapped))
      ∙ idle-at (length whole.chans) (get_or e.chans i 0 - 1)
      ∙ sym (idle-at (length part.chans) i))

  pub opening-in : state_in e (opening whole) ≡ opening part
  opening-in = λ i. record { phases = opening-phases i; procs = opening-procs i }

  -- ---- one entry

  module _ (s : State) (alive : Alive whole s) (fits : Fits whole s) where
    -- of a component, at a channel
    module _ (d p j : ℕ) (mv : Move) (value : Option ℕ) (next : State) (step : Step whole.sites s d p j mv value next) where
      abbrev phase-then : Phase
      phase-then = phase_after (phase_at s j) mv value

      port : IsPort whole.sites d p
      port = step.steps_at.is_port

      j-from : 0 < j
      j-from = subst (λ n. 0 < n) (sym step.chan_is) (wired.chan_from d p port)

      j-to : j ≤ length s.phases
      j-to = let to = wired.chan_to d p port in let len = fits.phases_len in let at = step.chan_is in omega (arith, to, len, at)

      -- the part's phases after it
      phases-here : (k : ℕ) → in_part e.chans j ≡ Some k → map (phase_at next) e.chans ≡ set (map (phase_at s) e.chans) (k - 1) phase-then
      phases-here k some =
          ap (λ (t : State). map (phase_at t) e.chans) step.next_is
          ∙ here e.chans (length part.chans) (length whole.chans) is.chans s.phases Idle j phase-then j-from k some j-to

      phases-elsewhere : in_part e.chans j ≡ None → map (phase_at next) e.chans ≡ map (phase_at s) e.chans
      phases-elsewhere none =
          ap (λ (t : State). map (phase_at t) e.chans) step.next_is
          ∙ elsewhere e.chans (length part.chans) (length whole.chans) is.chans s.phases Idle j phase-then j-from none

      procs-here : (c : ℕ) → in_part e.comps d ≡ Some c → map (proc_at next) e.comps ≡ set (map (proc_at s) e.comps) (c - 1) step.rest
      procs-here c some =
          let to = port.comp_to in
          let len = fits.procs_len in
          ap (λ (t : State). map (proc_at t) e.comps) step.next_is
          ∙ here e.comps (length part.sites) (length whole.sites) is.comps s.procs no_proc d step.rest port.comp_from c some (omega (arith, to, len))

      procs-elsewhere : in_part e.comps d ≡ None → map (proc_at next) e.comps ≡ map (proc_at s) e.comps
      procs-elsewhere none =
          ap (λ (t : State). map (proc_at t) e.comps) step.next_is
          ∙ elsewhere e.comps (length part.sites) (length whole.sites) is.comps s.procs no_proc d step.rest port.comp_from none

      -- inside
      module _ (c : ℕ) (some : in_part e.comps d ≡ Some c) where
        abbrev at : (0 < c) × (c ≤ length part.sites) × (comp c ≡ d)
        at = there e.comps (length part.sites) (length whole.sites) is.comps d c some

        port-in : IsPort part.sites c p
        port-in = port-of-part c d p at.0 at.1 at.2 port

        abbrev kc : ℕ
        kc = chan_at part.sites c p

        chan-j : chan kc ≡ j
        chan-j = sym (chan-is c d p at.0 at.1 at.2 port-in) ∙ sym step.chan_is

        kc-from : 0 < kc
        kc-from = own.chan_from c p port-in

        kc-to : kc ≤ length part.chans
        kc-to = own.chan_to c p port-in

        chan-found : in_part e.chans j ≡ Some kc
        chan-found = found-chan kc j kc-from kc-to chan-j

        same-phase : phase_at (state_in e s) kc ≡ phase_at s j
        same-phase = phase-is s kc j kc-from kc-to chan-j

        same-proc : proc_at (state_in e s) c ≡ proc_at s d
        same-proc = proc-is s c d at.0 at.1 at.2

        can-in : CanMove (proc_at (state_in e s) c) p (phase_at (state_in e s) kc)
        can-in =
            let on : CanMove (proc_at s d) p (phase_at s j) = subst (λ n. CanMove (proc_at s d) p (phase_at s n)) (sym step.chan_is) step.steps_at.can in
            subst (λ (q : Proc). CanMove q p (phase_at (state_in e s) kc)) (sym same-proc) (subst (λ f. CanMove (proc_at s d) p f) (sym same-phase) on)

        moves-in : Moves (proc_at (state_in e s) c) p (phase_at (state_in e s) kc) mv value step.rest
        moves-in = subst (λ (q : Proc). Moves q p (phase_at (state_in e s) kc) mv value step.rest) (sym same-proc) (subst (λ f. Moves (proc_at s d) p f mv value step.rest) (sym same-phase) step.moves)

        next-in : state_in e next ≡ moved (state_in e s) kc (phase_after (phase_at (state_in e s) kc) mv value) c step.rest
        next-in =
            let phases = phases-here kc chan-found ∙ ap (λ f. set (map (phase_at s) e.chans) (kc - 1) (phase_after f mv value)) (sym same-phase) in
            let procs = procs-here c some in
            λ i. record { phases = phases i; procs = procs i }

        step-in : (k : ℕ) → in_part e.chans j ≡ Some k → Step part.sites (state_in e s) c p k mv value (state_in e next)
        step-in k is-k =
            let same : kc ≡ k = some-is kc k (sym chan-found ∙ is-k) in
            subst (λ n. Step part.sites (state_in e s) c p n mv value (state_in e next)) same (record {
              steps_at = record { is_port = port-in; can = can-in };
              chan_is = refl;
              rest = step.rest;
              moves = moves-in;
              next_is = next-in;
            })

      -- outside, at a channel of the part
      module _ (k : ℕ) (none : in_part e.comps d ≡ None) (some : in_part e.chans j ≡ Some k) where
        abbrev on : (0 < k) × (k ≤ length part.chans) × (chan k ≡ j)
        on = there e.chans (length part.chans) (length whole.chans) is.chans j k some

        chan-at : chan_at whole.sites d p ≡ chan k
        chan-at = sym step.chan_is ∙ sym on.2

        is-port : k ≤ length part.ports
        is-port = elim (cases_lt (length part.ports) k) [
          | inl lt ↦ absurd (is.alone k d p lt on.1 port chan-at none)
          | inr le ↦ le
        ]

        side : answers mv ≡ not (port_is_passive part.ports k)
        side = sym (end-of whole wired s d p j mv value next alive step).sense ∙ is.facing k d p on.0 is-port port chan-at none

        fits-on : FitsOn (chan_in part.chans k) mv value
        fits-on = subst (λ c. FitsOn c mv value) (ap (chan_in whole.chans) (sym on.2) ∙ is.carry k on.0 on.1) (carries_step whole s d p j mv value next wired fits step)

        whole-then : phase-then ≢ Broken
        whole-then broken =
            let after : phase_at next j ≡ phase-then = ap (λ (t : State). phase_at t j) step.next_is ∙ at_same s.phases j phase-then Idle j-from j-to in
            unbroken whole wired next (alive-follows whole wired s (Fired surroundings d p j mv value) next alive step) j (after ∙ broken)

        same-phase-out : phase_at (state_in e s) k ≡ phase_at s j
        same-phase-out = phase-is s k j on.0 on.1 on.2

        host-in : HostStep part (state_in e s) (verb_of mv) k (given mv value) (answered mv value) (state_in e next)
        host-in =
            let m = step.moves in
            let brought = subst (λ move. value ≡ carried move m.head.gives (proc_at s d).store (incoming (phase_at s j) move)) (sym m.move_is) m.value_is in
            let made = plays m.head.gives (proc_at s d).store mv (phase_at s j) value m.allowed whole-then brought in
            let phases = phases-here k some ∙ ap (λ f. set (map (phase_at s) e.chans) (k - 1) f) (sym made.after)
            ∙ ap (λ f. set (map (phase_at s) e.chans) (k - 1) (host_after (verb_of mv) (given mv value) f)) (sym same-phase-out) in
            let procs = procs-elsewhere none in
            record {
              port_from = on.0;
              port_to = is-port;
              agreed = agreed mv (port_is_passive part.ports k) (chan_in part.chans k) value side fits-on;
              reply_is = made.reply ∙ ap (reply_to (verb_of mv)) (sym same-phase-out);
              next_is = λ i. record { phases = phases i; procs = procs i };
            }

      firing : (who : Who) (o q : Option ℕ) → in_part e.comps d ≡ o → in_part e.chans j ≡ q → Leads part (firing_in who o q p mv value) (state_in e s) (state_in e next)
      firing who (Some c) (Some k) at on = step-in c at k on
      firing who None (Some k) at on = host-in k at on
      firing who (Some c) None at on = let clash : None ≡ Some (kc c at) = sym on ∙ chan-found c at in absurd (cc)
      firing who None None at on =
          let phases = phases-elsewhere on in
          let procs = procs-elsewhere at in
          λ i. record { phases = phases i; procs = procs i }

    -- of a host of the whole
    module _ (who : Who) (verb : Verb) (port : ℕ) (value : Option ℕ) (reply : HostReply) (next : State) (does : HostStep whole s verb port value reply next) where
      port-in-phases : port ≤ length s.phases
      port-in-phases = let to = does.port_to in let ports = wired.ports_to in let len = fits.phases_len in omega (arith, to, ports, len)

      abbrev command-then : Phase
      command-then = host_after verb value (phase_at s port)

      command : (q : Option ℕ) → in_part e.chans port ≡ q → Leads part (option_map (λ k. Host who verb k value reply) q) (state_in e s) (state_in e next)
      command None none =
          let phases : map (phase_at next) e.chans ≡ map (phase_at s) e.chans =
          ap (λ (t : State). map (phase_at t) e.chans) does.next_is
          ∙ elsewhere e.chans (length part.chans) (length whole.chans) is.chans s.phases Idle port command-then does.port_from none in
          let procs : map (proc_at next) e.comps ≡ map (proc_at s) e.comps = ap (λ (t : State). map (proc_at t) e.comps) does.next_is in
          λ i. record { phases = phases i; procs = procs i }
      command (Some k) some =
          let (from, to, at) = there e.chans (length part.chans) (length whole.chans) is.chans port k some in
          let outer = does.port_to in
          let is-port : k ≤ length part.ports = elim (cases_lt (length part.ports) k) [
            | inl lt ↦ (let beyond = is.hidden k lt to in absurd (omega (arith, beyond, at, outer)))
            | inr le ↦ le
          ] in
          let same-phase = phase-is s k port from to at in
          let passive : port_is_passive whole.ports port ≡ port_is_passive part.ports k = ap (port_is_passive whole.ports) (sym at) ∙ is.passed k from is-port (omega (arith, at, outer)) in
          let carry : chan_in whole.chans port ≡ chan_in part.chans k = ap (chan_in whole.chans) (sym at) ∙ is.carry k from to in
          let phases : map (phase_at next) e.chans ≡ set (map (phase_at s) e.chans) (k - 1) (host_after verb value (phase_at (state_in e s) k)) =
          ap (λ (t : State). map (phase_at t) e.chans) does.next_is
          ∙ here e.chans (length part.chans) (length whole.chans) is.chans s.phases Idle port command-then does.port_from k some port-in-phases
          ∙ ap (λ f. set (map (phase_at s) e.chans) (k - 1) (host_after verb value f)) (sym same-phase) in
          let procs : map (proc_at next) e.comps ≡ map (proc_at s) e.comps = ap (λ (t : State). map (proc_at t) e.comps) does.next_is in
          record {
            port_from = from;
            port_to = is-port;
            agreed = sym (λ i. refusal verb (passive i) (carry i) value) ∙ does.agreed;
            reply_is = does.reply_is ∙ ap (reply_to verb) (sym same-phase);
            next_is = λ i. record { phases = phases i; procs = procs i };
          }

    -- what can be done in the part can be done in the whole
    rests : Rest whole.sites s → Rest part.sites (state_in e s)
    rests rest c (p, steps) =
        let port = steps.is_port in
        let k = chan_at part.sites c p in
        let d = comp c in
        let at : chan_at whole.sites d p ≡ chan k = chan-is c d p port.comp_from port.comp_to refl port in
        let same-proc = proc-is s c d port.comp_from port.comp_to refl in
        let same-phase = phase-is s k (chan_at whole.sites d p) (own.chan_from c p port) (own.chan_to c p port) (sym at) in
        rest d (
          p,
          record {
            is_port = port-of-whole c d p port.comp_from port.comp_to refl port;
            can = subst (λ (q : Proc). CanMove q p (phase_at s (chan_at whole.sites d p))) same-proc (subst (λ f. CanMove (proc_at (state_in e s) c) p f) same-phase steps.can);
          },
        )

    leads : (x : Entry) (next : State) → Follows whole s x next → Leads part (entry_in e x) (state_in e s) (state_in e next)
    leads (Fired who c p k mv value) next step = firing c p k mv value next step who (in_part e.comps c) (in_part e.chans k) refl refl
    leads (Host who verb port value reply) next does = command who verb port value reply next does (in_part e.chans port) refl
    leads (Rested who) next (rest, same) = (rests rest, ap (state_in e) same)

  -- ---- all entries

  joins : (o : Option Entry) (xs : List Entry) (s next last : State) → Leads part o s next → Run part next xs last → Run part s (cons_option o xs) last
  joins None xs s next last same run = subst (λ t. Run part t xs last) same run
  joins (Some x) xs s next last follows run = (next, follows, run)

  run-from : (s : State) (es : List Entry) (last : State) → Alive whole s → Fits whole s → Run whole s es last → Run part (state_in e s) (entries_in e es) (state_in e last)
  run-from s [] last alive fits same = ap (state_in e) same
  run-from s (x ∷ es) last alive fits (next, follows, run) =
      joins (entry_in e x) (entries_in e es) (state_in e s) (state_in e next) (state_in e last) (leads s alive fits x next follows)
      (run-from next es last (alive-follows whole wired s x next alive follows) (fits_follows whole s x next wired fits follows) run)

  pub run-in : (es : List Entry) (last : State) → Run whole (opening whole) es last → Run part (opening part) (entries_in e es) (state_in e last)
  run-in es last run =
      subst (λ s. Run part s (entries_in e es) (state_in e last)) opening-in
      (run-from (opening whole) es last (alive-opening whole wired) (fits_opening whole wired) run)

-- ---- who made them, and how many they are

HasWhoIn : Option Entry → Type 0
HasWhoIn None = Unit {0}
HasWhoIn (Some x) = HasWho x

module _ (e : Embedding) where
  firing-who : (who : Who) (o q : Option ℕ) (p : ℕ) (mv : Move) (value : Option ℕ) → IsWho who → HasWhoIn (firing_in who o q p mv value)
  unfolding HasWhoIn
  firing-who who (Some c) (Some k) p mv value by = by
  firing-who who None (Some k) p mv value by = (omega arith, omega arith)
  firing-who who (Some c) None p mv value by = tt
  firing-who who None None p mv value by = tt

  command-who : (who : Who) (verb : Verb) (value : Option ℕ) (reply : HostReply) (q : Option ℕ) → IsHost who → HasWhoIn (option_map (λ k. Host who verb k value reply) q)
  unfolding HasWhoIn
  command-who who verb value reply None by = tt
  command-who who verb value reply (Some k) by = by

  entry-who : (x : Entry) → HasWho x → HasWhoIn (entry_in e x)
  unfolding HasWhoIn
  entry-who (Fired who c p k mv value) by = firing-who who (in_part e.comps c) (in_part e.chans k) p mv value by
  entry-who (Host who verb port value reply) by = command-who who verb value reply (in_part e.chans port) by
  entry-who (Rested who) by = by

  joins-who : (o : Option Entry) (xs : List Entry) → HasWhoIn o → AllByRecursion HasWho xs → AllByRecursion HasWho (cons_option o xs)
  unfolding HasWhoIn
  joins-who None xs here rest = rest
  joins-who (Some x) xs here rest = (here, rest)

  pub who-in : (es : List Entry) → AllByRecursion HasWho es → AllByRecursion HasWho (entries_in e es)
  who-in [] by = tt
  who-in (x ∷ es) by = joins-who (entry_in e x) (entries_in e es) (entry-who x by.0) (who-in es by.1)

  joins-few : (o : Option Entry) (xs : List Entry) → length (cons_option o xs) ≤ suc (length xs)
  joins-few None xs = omega arith
  joins-few (Some x) xs = omega arith

  pub few-in : (es : List Entry) → length (entries_in e es) ≤ length es
  few-in [] = omega arith
  few-in (x ∷ es) = let one = joins-few (entry_in e x) (entries_in e es) in let more = few-in es in omega (arith, one, more)
