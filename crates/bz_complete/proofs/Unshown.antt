-- Where the run that was made stops before a move of the host, or of nobody, no other run shows it there either.
use Rattle.std.proofs.Common.{◌≡◌, ◌≢◌, inl, inr, ℕ, zero, suc, ◌-◌, ◌<◌, ◌≤◌, Bool, true, false, not, Option, None, List, [], ◌∷◌, ◌++◌, get_or, length, replicate, refl, sym, ap, subst, ◌∙◌}
use Rattle.std.specs.Prelude.{if◌then◌else◌}
use Rattle.std.proofs.lemmas.Bool.{cases_eq, eq-eqb, ne_eqb}
use Rattle.std.proofs.lemmas.List.{append-nil}
use Rattle.bz_model.specs.declared.channel.Move.{Move}
use Rattle.bz_model.specs.declared.channel.Move.TheVariants.{Ask, Take, Reply, Got}
use Rattle.bz_model.specs.declared.channel.Phase.{Phase}
use Rattle.bz_model.specs.declared.channel.Phase.TheVariants.{Idle, Asked, Taken, Replied, Broken}
use Rattle.bz_model.specs.declared.event.Entry.{Entry}
use Rattle.bz_model.specs.declared.event.Entry.TheVariants.{Fired, Host, Rested}
use Rattle.bz_model.specs.declared.event.Reply.TheVariants as said
use Rattle.bz_model.specs.Hosts.{host_after, refusal_at, reply_to}
use Rattle.bz_model.specs.Nets.{State, Wiring, opening, phase_at}
use Rattle.bz_model.specs.Phases.{phase_after}
use Rattle.bz_model.specs.Runs.{Follows, Run}
use Rattle.bz_flat.specs.Wires.{HasEnd, WellWired}
use Rattle.bz_net.specs.Sides.{answers, sends}
use Rattle.bz_net.proofs.Soundness.{Run-push}
use Rattle.bz_run_laws.proofs.Alive.{Alive, alive-follows, alive-opening, unbroken}
use Rattle.bz_complete.specs.Choosing.{is_request, open_after, open_with}
use Rattle.bz_complete.specs.Shown.{shown, shown_of}
use Rattle.bz_complete.specs.Stopping.{HasRun, IsDeadEnd, is_busy, replies, word_of}
use Rattle.bz_complete.specs.declared.short.Sent.{Sent}
use Rattle.bz_complete.specs.declared.short.Sent.TheVariants as sent
use Rattle.bz_complete.specs.declared.short.ShortMove.{ShortMove}
use Rattle.bz_complete.proofs.DeadEnds.{first_is, moved_elsewhere, moved_here, word_elsewhere, word_here}
use Rattle.bz_complete.proofs.HostEnds.{nobody_dead, silent_busy, turn_dead, word_dead, word_told}
use Rattle.bz_complete.proofs.Noticing.{entry_shows, told}
use Rattle.bz_complete.proofs.Sending.{Reached, at_opening, follows}

-- a channel is busy or not by what was sent there last
requests : (s : Sent) → is_request s ≡ not (replies s)
requests sent.Ask = refl
requests sent.Reply = refl

busy_here : (k : ℕ) (b : Bool) (m : ShortMove) → m.chan ≡ k → open_with k b m ≡ not (replies m.sent)
busy_here k b m e = ap (λ t. if t then is_request m.sent else b) (eq-eqb m.chan k e) ∙ requests m.sent

busy_there : (k : ℕ) (b : Bool) (m : ShortMove) → m.chan ≢ k → open_with k b m ≡ b
busy_there k b m ne = rw (ne_eqb m.chan k ne) refl

move_sent : (phase : Phase) (mv : Move) (v : Option ℕ) → phase_after phase mv v ≢ Broken → sends mv ≡ true → is_busy (phase_after phase mv v) ≡ not (answers mv)
move_sent phase Take v whole is = absurd (cc)
move_sent phase Got v whole is = absurd (cc)
move_sent Idle Ask v whole is = refl
move_sent (Asked x) Ask v whole is = absurd (whole refl)
move_sent Taken Ask v whole is = absurd (whole refl)
move_sent (Replied x) Ask v whole is = absurd (whole refl)
move_sent Broken Ask v whole is = absurd (whole refl)
move_sent Idle Reply v whole is = absurd (whole refl)
move_sent (Asked x) Reply v whole is = absurd (whole refl)
move_sent Taken Reply v whole is = refl
move_sent (Replied x) Reply v whole is = absurd (whole refl)
move_sent Broken Reply v whole is = absurd (whole refl)

-- a reply breaks no channel where a request is open alone
replied : (phase : Phase) (mv : Move) (v : Option ℕ) → phase_after phase mv v ≢ Broken → sends mv ≡ true → answers mv ≡ true → is_busy phase ≡ true
replied phase Ask v whole is side = absurd (cc)
replied phase Take v whole is side = absurd (cc)
replied phase Got v whole is side = absurd (cc)
replied Idle Reply v whole is side = absurd (whole refl)
replied (Asked x) Reply v whole is side = absurd (whole refl)
replied Taken Reply v whole is side = refl
replied (Replied x) Reply v whole is side = absurd (whole refl)
replied Broken Reply v whole is side = absurd (whole refl)

word_replied : (s : Sent) (phase : Phase) → replies s ≡ true → reply_to (word_of s) phase ≡ said.Done → is_busy phase ≡ true
word_replied sent.Ask phase is done = absurd (cc)
word_replied sent.Reply Idle is done = absurd (cc)
word_replied sent.Reply (Asked x) is done = absurd (cc)
word_replied sent.Reply Taken is done = refl
word_replied sent.Reply (Replied x) is done = absurd (cc)
word_replied sent.Reply Broken is done = absurd (cc)

pub idle_at : (n i : ℕ) → get_or (replicate n Idle) i Idle ≡ Idle
idle_at zero i = refl
idle_at (suc n) zero = refl
idle_at (suc n) (suc i) = idle_at n i

word_sent : (s : Sent) (v : Option ℕ) (phase : Phase) → reply_to (word_of s) phase ≡ said.Done → is_busy (host_after (word_of s) v phase) ≡ not (replies s)
word_sent sent.Ask v Idle done = refl
word_sent sent.Ask v (Asked x) done = absurd (cc)
word_sent sent.Ask v Taken done = absurd (cc)
word_sent sent.Ask v (Replied x) done = absurd (cc)
word_sent sent.Ask v Broken done = absurd (cc)
word_sent sent.Reply v Idle done = absurd (cc)
word_sent sent.Reply v (Asked x) done = absurd (cc)
word_sent sent.Reply v Taken done = refl
word_sent sent.Reply v (Replied x) done = absurd (cc)
word_sent sent.Reply v Broken done = absurd (cc)

pub same_first : (x y : ShortMove) (xs ys : List ShortMove) → x ∷ xs ≡ y ∷ ys → x ≡ y
same_first x y xs ys e = cc

pub same_rest : (x y : ShortMove) (xs ys : List ShortMove) → x ∷ xs ≡ y ∷ ys → xs ≡ ys
same_rest x y xs ys e = cc

module _ (w : Wiring) (wired : WellWired w) where
  -- what each state of a run keeps
  pub record Kept (s : State) : Type 0 where
    pub reached : Reached w s
    pub alive : Alive w s
    pub entries : List Entry
    pub run : Run w (opening w) entries s

  pub kept_opening : Kept (opening w)
  kept_opening = record { reached = at_opening w wired; alive = alive-opening w wired; entries = []; run = refl }

  pub kept_follows : (s next : State) (e : Entry) → Kept s → Follows w s e next → Kept next
  kept_follows s next e kept by = record {
    reached = follows w wired s next e kept.reached by;
    alive = alive-follows w wired s e next kept.alive by;
    entries = kept.entries ++ e ∷ [];
    run = Run-push w (opening w) kept.entries s e next kept.run by;
  }

  pub kept_run : (s last : State) (es : List Entry) → Kept s → Run w s es last → Kept last
  kept_run s last [] kept is = subst Kept (sym is) kept
  kept_run s last (e ∷ es) kept (next, by, run) = kept_run next last es (kept_follows s next e kept by) run

  -- ---- a run that shows some moves and then one more, cut in front of the entry that does

  pub record Cut (s : State) (xs : List ShortMove) (m : ShortMove) : Type 0 where
    pub before : List Entry
    pub at : State
    pub run : Run w s before at
    pub shows : shown before ≡ xs
    pub entry : Entry
    pub next : State
    pub follows : Follows w at entry next
    pub tells : shown_of entry ≡ m ∷ []

  pub cut : (s last : State) (fs : List Entry) (xs : List ShortMove) (m : ShortMove) → Run w s fs last → shown fs ≡ xs ++ m ∷ [] → Cut s xs m
  cut s last [] [] m run e = absurd (cc)
  cut s last [] (x ∷ xs) m run e = absurd (cc)
  cut s last (f ∷ fs) xs m (mid, by, run) e = elim (entry_shows f) [
    | inl silent ↦
        let c = cut mid last fs xs m run (ap (λ ys. ys ++ shown fs) (sym silent) ∙ e) in
        record { before = f ∷ c.before; at = c.at; run = (mid, by, c.run); shows = ap (λ ys. ys ++ shown c.before) silent ∙ c.shows; entry = c.entry; next = c.next; follows = c.follows; tells = c.tells }
    | inr (x, is) ↦ sends_it x is xs (ap (λ ys. ys ++ shown fs) (sym is) ∙ e) (λ ys same. cut mid last fs ys m run same)
  ]
    where
      sends_it : (x : ShortMove) → shown_of f ≡ x ∷ [] → (xs : List ShortMove) → x ∷ shown fs ≡ xs ++ m ∷ [] → ((ys : List ShortMove) → shown fs ≡ ys ++ m ∷ [] → Cut mid ys m) → Cut s xs m
      sends_it x is [] same on = record { before = []; at = s; run = refl; shows = refl; entry = f; next = mid; follows = by; tells = is ∙ first_is x m (shown fs) same }
      sends_it x is (y ∷ ys) same on =
          let c = on ys (same_rest x y (shown fs) (ys ++ m ∷ []) same) in
          record {
            before = f ∷ c.before;
            at = c.at;
            run = (mid, by, c.run);
            shows = ap (λ zs. zs ++ shown c.before) is ∙ (λ i. same_first x y (shown fs) (ys ++ m ∷ []) same i ∷ c.shows i);
            entry = c.entry;
            next = c.next;
            follows = c.follows;
            tells = c.tells;
          }

  -- such a run doesn't end dead
  not_dead : (s : State) (xs : List ShortMove) (m : ShortMove) → (c : Cut s xs m) → IsDeadEnd w c.at m → ⊥
  not_dead s xs m c dead = dead (c.entry ∷ []) c.next (c.next, c.follows, refl) (append-nil (shown_of c.entry) ∙ c.tells)

  -- ---- the host, and nobody

  pub sent_busy : (s next : State) (e : Entry) (m : ShortMove) (k : ℕ) → 0 < k → Kept s → Follows w s e next → shown_of e ≡ m ∷ [] → is_busy (phase_at next k) ≡ open_with k (is_busy (phase_at s k)) m
  sent_busy s next (Fired who c p j mv v) m k from kept step shows =
      let tells = told j mv v m shows in
      let whole = unbroken w wired next (alive-follows w wired s (Fired who c p j mv v) next kept.alive step) in
      let here = moved_here w wired s next c p j mv v kept.reached step in
      elim (cases_eq m.chan k) [
        | inl e ↦
            ap (λ x. is_busy (phase_at next x)) (sym e ∙ sym tells.chan) ∙ ap is_busy here
            ∙ move_sent (phase_at s j) mv v (λ broken. whole j (here ∙ broken)) tells.sent_is ∙ ap not tells.side ∙ sym (busy_here k (is_busy (phase_at s k)) m e)
        | inr ne ↦
            ap is_busy (moved_elsewhere w wired s next c p j mv v kept.reached step k from (λ e. ne (sym tells.chan ∙ sym e)))
            ∙ sym (busy_there k (is_busy (phase_at s k)) m ne)
      ]
  sent_busy s next (Host who verb port v reply) m k from kept step shows =
      let is = word_told verb port v reply m shows in
      let here = word_here w wired s next verb port v reply kept.reached step in
      let done : reply_to (word_of m.sent) (phase_at s port) ≡ said.Done = ap (λ x. reply_to x (phase_at s port)) (sym is.verb_is) ∙ sym step.reply_is ∙ is.done in
      elim (cases_eq m.chan k) [
        | inl e ↦
            ap (λ x. is_busy (phase_at next x)) (sym e ∙ sym is.chan) ∙ ap is_busy here ∙ ap (λ x. is_busy (host_after x v (phase_at s port))) is.verb_is
            ∙ word_sent m.sent v (phase_at s port) done ∙ sym (busy_here k (is_busy (phase_at s k)) m e)
        | inr ne ↦
            ap is_busy (word_elsewhere w wired s next verb port v reply kept.reached step k from (λ e. ne (sym is.chan ∙ sym e)))
            ∙ sym (busy_there k (is_busy (phase_at s k)) m ne)
      ]
  sent_busy s next (Rested who) m k from kept by shows = absurd (cc)

  run_busy : (s last : State) (es : List Entry) (k : ℕ) → 0 < k → Kept s → Run w s es last → is_busy (phase_at last k) ≡ open_after k (is_busy (phase_at s k)) (shown es)
  run_busy s last [] k from kept is = ap (λ t. is_busy (phase_at t k)) is
  run_busy s last (e ∷ es) k from kept (next, by, run) = elim (entry_shows e) [
    | inl silent ↦
        run_busy next last es k from (kept_follows s next e kept by) run
        ∙ ap (λ b. open_after k b (shown es)) (silent_busy w wired k from s next e kept.reached by silent)
        ∙ ap (λ xs. open_after k (is_busy (phase_at s k)) (xs ++ shown es)) (sym silent)
    | inr (x, is) ↦
        run_busy next last es k from (kept_follows s next e kept by) run
        ∙ ap (λ b. open_after k b (shown es)) (sent_busy s next e x k from kept by is)
        ∙ ap (λ xs. open_after k (is_busy (phase_at s k)) (xs ++ shown es)) (sym is)
  ]

  -- what is replied was requested
  pub reply_busy : (s next : State) (e : Entry) (m : ShortMove) → Kept s → Follows w s e next → shown_of e ≡ m ∷ [] → replies m.sent ≡ true → is_busy (phase_at s m.chan) ≡ true
  reply_busy s next (Fired who c p j mv v) m kept step shows is =
      let tells = told j mv v m shows in
      let whole = unbroken w wired next (alive-follows w wired s (Fired who c p j mv v) next kept.alive step) in
      let here = moved_here w wired s next c p j mv v kept.reached step in
      ap (λ x. is_busy (phase_at s x)) (sym tells.chan) ∙ replied (phase_at s j) mv v (λ broken. whole j (here ∙ broken)) tells.sent_is (tells.side ∙ is)
  reply_busy s next (Host who verb port v reply) m kept step shows is =
      let said_is = word_told verb port v reply m shows in
      let done : reply_to (word_of m.sent) (phase_at s port) ≡ said.Done = ap (λ x. reply_to x (phase_at s port)) (sym said_is.verb_is) ∙ sym step.reply_is ∙ said_is.done in
      ap (λ x. is_busy (phase_at s x)) (sym said_is.chan) ∙ word_replied m.sent (phase_at s port) is done
  reply_busy s next (Rested who) m kept by shows is = absurd (cc)

  -- a request is open on a channel as the moves say that a run shows
  pub open_at : (s : State) (es : List Entry) (k : ℕ) → 0 < k → Run w (opening w) es s → is_busy (phase_at s k) ≡ open_after k false (shown es)
  open_at s es k from run = run_busy (opening w) s es k from kept_opening run ∙ ap (λ b. open_after k b (shown es)) (ap is_busy (idle_at (length w.chans) (k - 1)))

  module _ (m : ShortMove) (none : HasEnd w.sites m.chan (replies m.sent) → ⊥) where
    -- a run with the same moves before it
    other_cut : (xs : List ShortMove) → HasRun w (xs ++ m ∷ []) → Cut (opening w) xs m
    other_cut xs has = cut (opening w) has.last has.entries xs m has.run has.shows

    cut_kept : (xs : List ShortMove) (c : Cut (opening w) xs m) → Kept c.at
    cut_kept xs c = kept_run (opening w) c.at c.before kept_opening c.run

    pub nobody_unshown : (0 < m.chan → m.chan ≤ length w.ports → ⊥) → (xs : List ShortMove) → HasRun w (xs ++ m ∷ []) → ⊥
    nobody_unshown out xs has =
        let c = other_cut xs has in
        not_dead (opening w) xs m c (nobody_dead w wired m none out c.at (cut_kept xs c).reached)

    pub word_unshown : (refusal_at w (word_of m.sent) m.chan m.value ≡ None → ⊥) → (xs : List ShortMove) → HasRun w (xs ++ m ∷ []) → ⊥
    word_unshown refused xs has =
        let c = other_cut xs has in
        not_dead (opening w) xs m c (word_dead w wired m none refused c.at (cut_kept xs c).reached)

    pub turn_unshown : 0 < m.chan → (es : List Entry) (s : State) → Run w (opening w) es s → is_busy (phase_at s m.chan) ≡ not (replies m.sent) → HasRun w (shown es ++ m ∷ []) → ⊥
    turn_unshown from es s run busy has =
        let c = other_cut (shown es) has in
        let one = run_busy (opening w) s es m.chan from kept_opening run in
        let other = run_busy (opening w) c.at c.before m.chan from kept_opening c.run in
        let same : is_busy (phase_at c.at m.chan) ≡ is_busy (phase_at s m.chan) = other ∙ ap (open_after m.chan (is_busy (phase_at (opening w) m.chan))) c.shows ∙ sym one in
        not_dead (opening w) (shown es) m c (turn_dead w wired m none from c.at (cut_kept (shown es) c).reached (same ∙ busy))
