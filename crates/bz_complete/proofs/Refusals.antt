-- Where a net stops: a component has nothing to notice and can't send the move, or the host can't.
use Rattle.std.proofs.Common.{◌≡◌, ℕ, suc, ◌+◌, ◌-◌, ◌<◌, ◌≤◌, Bool, true, false, not, Option, Some, None, List, [], ◌∷◌, ◌++◌, get_or, length, take, inl, inr, refl, sym, ap, subst, ◌∙◌, arith}
use Rattle.std.specs.Prelude.{if◌then◌else◌, slice_get, unwrap_or, Result, Ok, Err, IfOk, IfSome}
use Rattle.std.proofs.lemmas.Bool.{cases_lt, false≢true}
use Rattle.std.proofs.lemmas.List.{take_more}
use Rattle.std.proofs.lemmas.Option.{unwrap_or-slice_get}
use Rattle.bz_model.specs.Limits.{max_entries}
use Rattle.bz_model.specs.Names.{numbered}
use Rattle.bz_model.specs.declared.event.NetError.{NetError}
use Rattle.bz_model.specs.declared.event.NetError.TheVariants.{JournalFull, Memory, NotEnabled, TooLarge, UnknownPort, ValueMissing, ValueUnwanted, WrongSide}
use Rattle.bz_model.specs.declared.event.Verb.{Verb}
use Rattle.bz_model.specs.Hosts.{refusal_at}
use Rattle.bz_model.specs.declared.channel.Move.{Move}
use Rattle.bz_model.specs.declared.event.Entry.{Entry}
use Rattle.bz_model.specs.declared.event.Entry.TheVariants.{Host}
use Rattle.bz_model.specs.declared.event.Reply.{Reply as Answered}
use Rattle.bz_model.specs.declared.event.Reply.TheVariants.{Done}
use Rattle.bz_model.specs.declared.event.Who.{Who}
use Rattle.bz_model.specs.declared.event.Who.TheVariants as who
use Rattle.bz_model.specs.Heads.{after_head}
use Rattle.bz_model.specs.Nets.{Site, State, Step, StepsAt, Wiring, chan_at, moved, opening, phase_at, proc_at, site_at}
use Rattle.bz_model.specs.Phases.{incoming, phase_after}
use Rattle.bz_model.specs.Terms.{value_of}
use Rattle.bz_model.specs.Runs.{Run}
use Rattle.bz_flat.specs.Wires.{HasEnd, IsEnd, WellWired}
use Rattle.bz_net.specs.Due.{IsSoleDue}
use Rattle.bz_net.specs.Replies.{IsSoleStep, RefusesAt}
use Rattle.bz_net.specs.Sides.{sends}
use Rattle.bz_net.specs.Simulation.{Adds, IsOpened, Simulation}
use Rattle.bz_complete.specs.Shown.{is_done, short, shown, shown_move, shown_of, shown_word}
use Rattle.bz_complete.specs.Completing.{Gains, GainsUpTo}
use Rattle.bz_complete.specs.Stopping.{HasRun, HasSent, IsDeadEndAt, IsMaker, IsPlain, IsQuiet, IsRefuted, IsStop, IsStopAt, Notices, is_busy, replies, word_of}
use Rattle.bz_complete.specs.declared.making.Maker.{Maker}
use Rattle.bz_complete.specs.declared.making.Maker.TheVariants as maker
use Rattle.bz_complete.specs.declared.short.Sent.{Sent}
use Rattle.bz_complete.specs.declared.short.Sent.TheVariants as sent
use Rattle.bz_complete.specs.declared.short.ShortMove.{ShortMove}
use Rattle.bz_complete.proofs.Gaining.{gains_word, made_of}
use Rattle.bz_complete.proofs.DeadEnds.{comp_dead}
use Rattle.bz_complete.proofs.HostEnds.{nobody_dead, turn_dead, word_dead}
use Rattle.bz_complete.proofs.Noticing.{allows_sent, carried_sent, told}
use Rattle.bz_complete.proofs.Sending.{Reached, at_opening, run}
use Rattle.bz_complete.proofs.Plain.{comp_unshown}
use Rattle.bz_complete.proofs.Unshown.{nobody_unshown, turn_unshown, word_unshown}

module _ (sites : List Site) (s : State) (c : ℕ) where
  -- a request, a reply or nothing comes next
  pub sends_next : (p : ℕ) (due : Option Move) → IsSoleDue sites s c p due → ((mv : Move) → due ≡ Some mv → sends mv ≡ true) → Notices sites s c p → ⊥
  sends_next p due sole sent (at, is) =
      let head = at.can.0 in
      false≢true (sym is ∙ sent head.move (sole head.move at.is_port (head, at.can.1, refl)))

  pub no_step : (p : ℕ) → (StepsAt sites s c p → ⊥) → Notices sites s c p → ⊥
  no_step p none notices = none notices.0

  -- ports that are looked at one after another
  abbrev pub QuietTo : ℕ → Type 0
  QuietTo n = (p : ℕ) → p ≤ n → Notices sites s c p → ⊥

  pub quiet_start : QuietTo 0
  quiet_start p to (at, is) = let from = at.is_port.port_from in omega (arith, from, to)

  pub quiet_more : (n : ℕ) → QuietTo n → (Notices sites s c (n + 1) → ⊥) → QuietTo (n + 1)
  quiet_more n so not p to notices = elim (cases_lt n p) [
    | inl less ↦ let last : p ≡ n + 1 = omega (arith, to, less) in not (subst (Notices sites s c) last notices)
    | inr least ↦ so p least notices
  ]

  pub quiet_all : (n m : ℕ) → m ≡ length (site_at sites c).chans → m ≤ n → QuietTo n → IsQuiet sites s c
  quiet_all n m is past so p (at, silent) = let to = at.is_port.port_to in so p (omega (arith, is, past, to)) (at, silent)

  module _ (p : ℕ) (m : ShortMove) (end : IsEnd sites m.chan (replies m.sent) c p) where
    -- what is sent needs nothing of its channel
    steps : HasSent (proc_at s c) p m → StepsAt sites s c p
    steps (h, on, shows) = record {
      is_port = end.is_port;
      can = (h, on, allows_sent (phase_at s (chan_at sites c p)) h.move (told m.chan h.move (value_of h.gives (proc_at s c).store) m shows).sent_is);
    }

    pub cannot_send : (StepsAt sites s c p → ⊥) → HasSent (proc_at s c) p m → ⊥
    cannot_send none has = none (steps has)

    -- so there is a step that shows it
    record Shows : Type 0 where
      move : Move
      value : Option ℕ
      next : State
      step : Step sites s c p m.chan move value next
      shows : shown_move m.chan move value ≡ m ∷ []

    shows_it : HasSent (proc_at s c) p m → Shows
    shows_it (h, on, shows) =
        let q = proc_at s c in
        let value = value_of h.gives q.store in
        let is_sent : sends h.move ≡ true = (told m.chan h.move value m shows).sent_is in
        let rest = after_head q h (incoming (phase_at s m.chan) h.move) in
        record {
          move = h.move;
          value = value;
          next = moved s m.chan (phase_after (phase_at s m.chan) h.move value) c rest;
          step = record {
            steps_at = steps (h, on, shows);
            chan_is = sym end.on;
            rest = rest;
            moves = record {
              head = h;
              on = on;
              move_is = refl;
              allowed = allows_sent (phase_at s m.chan) h.move is_sent;
              value_is = sym (carried_sent h.move h.gives q.store (incoming (phase_at s m.chan) h.move) is_sent);
              leaves = refl;
            };
            next_is = refl;
          };
          shows = shows;
        }

-- another move is the only one
sole_other : (old new : Simulation) (who : Who) (c p : ℕ) (m : ShortMove) (entry : Entry) → IsEnd old.wiring.sites m.chan (replies m.sent) c p → IsSoleStep old new who c p entry
    → (shown_of entry ≡ m ∷ [] → ⊥) → HasSent (proc_at old.state c) p m → ⊥
sole_other old new who c p m entry end sole not has =
    let it = shows_it old.wiring.sites old.state c p m end has in
    not (ap shown_of (sole m.chan it.move it.value it.next it.step).0 ∙ it.shows)

-- the same of a copy
pub sends_other : (net old new : Simulation) (who : Who) (c p : ℕ) (m : ShortMove) (entry : Entry) → old ≡ record net { room = old.room } → IsEnd net.wiring.sites m.chan (replies m.sent) c p
    → IsSoleStep old new who c p entry → (shown_of entry ≡ m ∷ [] → ⊥) → HasSent (proc_at net.state c) p m → ⊥
sends_other net old new who c p m entry same end sole not has =
    sole_other old new who c p m entry
    (subst (λ (w : Wiring). IsEnd w.sites m.chan (replies m.sent) c p) (sym (ap (λ (n : Simulation). n.wiring) same)) end) sole not
    (subst (λ (t : State). HasSent (proc_at t c) p m) (sym (ap (λ (n : Simulation). n.state) same)) has)

-- a component that has nothing to notice, and can't send the move
pub refused : (net : Simulation) (c p : ℕ) (m : ShortMove) → WellWired net.wiring → Run net.wiring (opening net.wiring) net.journal net.state → IsEnd net.wiring.sites m.chan (replies m.sent) c p → IsQuiet net.wiring.sites net.state c
    → (HasSent (proc_at net.state c) p m → ⊥) → IsStop net m
refused net c p m wired played end quiet none =
    let w = net.wiring in let at = end.is_port in record {
      dead = comp_dead w wired c at.comp_from p m end net.state (run w wired (opening w) net.state net.journal (at_opening w wired) played) quiet none;
      none = λ plain. comp_unshown w wired c at.comp_from at.comp_to (shown net.journal) (plain c p end) p m net.journal net.state end played refl quiet none;
    }

-- the same of the host, and of nobody
module _ (net : Simulation) (m : ShortMove) (wired : WellWired net.wiring) (played : Run net.wiring (opening net.wiring) net.journal net.state) where
  reached : Reached net.wiring net.state
  reached = run net.wiring wired (opening net.wiring) net.state net.journal (at_opening net.wiring wired) played

  pub nobody_refused : IsMaker net.wiring m maker.Nobody → IsStop net m
  nobody_refused (none, out) = record {
    dead = nobody_dead net.wiring wired m none out net.state reached;
    none = λ plain. nobody_unshown net.wiring wired m none out (shown net.journal);
  }

  pub word_stops : IsMaker net.wiring m maker.Host → (refusal_at net.wiring (word_of m.sent) m.chan m.value ≡ None → ⊥) → IsStop net m
  word_stops (none, from, to) off = record {
    dead = word_dead net.wiring wired m none off net.state reached;
    none = λ plain. word_unshown net.wiring wired m none off (shown net.journal);
  }

  pub turn_refused : IsMaker net.wiring m maker.Host → is_busy (phase_at net.state m.chan) ≡ not (replies m.sent) → IsStop net m
  turn_refused (none, from, to) busy = record {
    dead = turn_dead net.wiring wired m none from net.state reached busy;
    none = λ plain. turn_unshown net.wiring wired m none from net.journal net.state played busy;
  }

-- no port is on a channel that the net doesn't have
pub no_chan : (w : Wiring) (k : ℕ) (b : Bool) → WellWired w → (0 < k → k ≤ length w.chans → ⊥) → (HasEnd w.sites k b → ⊥) × (0 < k → k ≤ length w.ports → ⊥)
no_chan w k b wired out = (
  (λ (c, p, end). out (subst (λ j. 0 < j) end.on (wired.chan_from c p end.is_port)) (subst (λ j. j ≤ length w.chans) end.on (wired.chan_to c p end.is_port))),
  (λ from to. let few = wired.ports_to in out from (omega (arith, to, few))),
)

-- the number of its channels, read of its core
pub past_chans : (k n : ℕ) (core w : Wiring) → n ≡ length core.chans → core ≡ w → n < k → k ≤ length w.chans → ⊥
past_chans k n core w is same past to = let here : n ≡ length w.chans = is ∙ ap (λ (v : Wiring). length v.chans) same in omega (arith, here, past, to)

-- where the wiring is the same
pub end_still : (old new : Simulation) (xs : List ShortMove) (k c p : ℕ) (b : Bool) → Gains old new xs → IsEnd old.wiring.sites k b c p → IsEnd new.wiring.sites k b c p
end_still old new xs k c p b gains end = subst (λ (w : Wiring). IsEnd w.sites k b c p) (sym gains.wiring) end

pub comp_from : (sites : List Site) (k c p : ℕ) (b : Bool) → IsEnd sites k b c p → 0 < c
comp_from sites k c p b end = end.is_port.comp_from

pub comp_to : (sites : List Site) (k c p : ℕ) (b : Bool) → IsEnd sites k b c p → c ≤ length sites
comp_to sites k c p b end = end.is_port.comp_to

-- the word that sends a move
pub word_shown : (m : ShortMove) → shown_word (word_of m.sent) m.chan m.value Done ≡ m ∷ []
word_shown m = by m.sent m.chan m.value
  where
    by : (s : Sent) (k : ℕ) (v : Option ℕ) → shown_word (word_of s) k v Done ≡ short s k v ∷ []
    by sent.Ask k v = refl
    by sent.Reply k v = refl

pub word_gains : (old new : Simulation) (m : ShortMove) (reply : Answered) (is : Bool) → Adds old (Host (who.Host 1) (word_of m.sent) m.chan m.value reply) new → is ≡ is_done reply
    → Gains old new (if is then m ∷ [] else [])
word_gains old new m reply is adds same =
    subst (λ xs. Gains old new (if is then xs else [])) (word_shown m)
    (subst (λ b. Gains old new (if b then shown_word (word_of m.sent) m.chan m.value Done else [])) (sym same) (gains_word old new (word_of m.sent) m.chan m.value reply adds))

-- what is refused gains no more
pub refused_gains : (old new : Simulation) (m : ShortMove) (r : Result Bool NetError) → Gains old new [] → IfOk r (λ is. (is ≡ false) × IsStop new m) → IfOk r (λ is. Gains old new (if is then m ∷ [] else []))
refused_gains old new m (Ok true) gains is = absurd (false≢true (sym is.0))
refused_gains old new m (Ok false) gains is = gains
refused_gains old new m (Err e) gains is = tt

pub refused_dead : (new : Simulation) (m : ShortMove) (r : Result Bool NetError) → IfOk r (λ is. (is ≡ false) × IsStop new m) → IfOk r (λ is. is ≡ false → IsStop new m)
refused_dead new m (Ok b) is = λ _. is.1
refused_dead new m (Err e) is = tt

pub maker_still : (old new : Simulation) (xs : List ShortMove) (m : ShortMove) (maker : Maker) → Gains old new xs → IsMaker old.wiring m maker → IsMaker new.wiring m maker
maker_still old new xs m maker gains is = subst (λ (w : Wiring). IsMaker w m maker) (sym gains.wiring) is

-- the move of a line
pub stop_at : (net : Simulation) (moves : List ShortMove) (place : ℕ) (due : ShortMove) → due ≡ get_or moves place due → IsStop net due → IsStopAt net moves (place + 1)
stop_at net moves place due is stop m found =
    let line : place + 1 ≡ suc place = omega arith in
    let at : slice_get moves place ≡ Some m = subst (λ n. numbered moves n ≡ Some m) line found in
    let same : due ≡ m = is ∙ sym (unwrap_or-slice_get moves place due) ∙ ap (λ (x : Option ShortMove). unwrap_or x due) at in
    subst (IsStop net) same stop

-- what a stop says of the run that was made, and of all others
pub dead_ends : (net : Simulation) (moves : List ShortMove) (stop : Option ℕ) → IfSome stop (IsStopAt net moves) → IfSome stop (IsDeadEndAt net.wiring net.state moves)
dead_ends net moves None is = tt
dead_ends net moves (Some line) is = λ m found. (is m found).dead

pub refuted : (w : Wiring) (opened net : Simulation) (moves : List ShortMove) (stop : Option ℕ) → IsOpened w max_entries opened → GainsUpTo opened net moves stop → IfSome stop (IsStopAt net moves) → IfSome stop (IsRefuted w moves)
refuted w opened net moves None is gains stops = tt
refuted w opened net moves (Some line) is (place, line_is, lt, gains) stops = λ m found plain has.
    let made = made_of w opened net (take place moves) is gains in
    let at : slice_get moves place ≡ Some m = subst (λ n. numbered moves n ≡ Some m) line_is found in
    let here : get_or moves place m ≡ m = sym (unwrap_or-slice_get moves place m) ∙ ap (λ (x : Option ShortMove). unwrap_or x m) at in
    let next : place + 1 ≡ line = omega (arith, line_is) in
    let shows : take line moves ≡ shown net.journal ++ m ∷ [] =
    ap (λ n. take n moves) (sym next) ∙ take_more moves place m lt ∙ ap (λ d. take place moves ++ d ∷ []) here ∙ ap (λ ms. ms ++ m ∷ []) (sym made.shows) in
    let before : take (line - 1) moves ≡ shown net.journal = ap (λ n. take n moves) (omega (arith, line_is)) ∙ sym made.shows in
    (stops m found).none (subst (λ v. IsPlain v (shown net.journal) m) (sym made.wiring) (subst (λ ms. IsPlain w ms m) before plain)) (subst (λ v. HasRun v (shown net.journal ++ m ∷ [])) (sym made.wiring) (subst (HasRun w) shows has))

-- a word that is refused, and not for want of memory or of a place
pub word_refused : (net : Simulation) (verb : Verb) (port : ℕ) (value : Option ℕ) (e : NetError) → (e ≡ JournalFull → ⊥) → (e ≡ Memory → ⊥) → RefusesAt net verb port value e
    → refusal_at net.wiring verb port value ≡ None → ⊥
word_refused net verb port value JournalFull full memory refuses none = full refl
word_refused net verb port value Memory full memory refuses none = memory refl
word_refused net verb port value UnknownPort full memory refuses none = let both = sym refuses ∙ none in cc
word_refused net verb port value WrongSide full memory refuses none = let both = sym refuses ∙ none in cc
word_refused net verb port value ValueMissing full memory refuses none = let both = sym refuses ∙ none in cc
word_refused net verb port value ValueUnwanted full memory refuses none = let both = sym refuses ∙ none in cc
word_refused net verb port value TooLarge full memory refuses none = let both = sym refuses ∙ none in cc
word_refused net verb port value NotEnabled full memory refuses none = let both = sym refuses ∙ none in cc
