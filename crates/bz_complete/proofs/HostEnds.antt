-- Where the host, or nobody, is to send a move: no run goes on to show it.
use Rattle.std.proofs.Common.{◌≡◌, inl, inr, ℕ, ◌<◌, ◌≤◌, false, not, Option, None, [], ◌∷◌, ◌++◌, length, IsTrue, refl, sym, ap, subst, ◌∙◌}
use Rattle.std.proofs.lemmas.Bool.{cases_eq}
use Rattle.bz_model.specs.declared.channel.Move.{Move}
use Rattle.bz_model.specs.declared.channel.Move.TheVariants.{Ask, Take, Reply, Got}
use Rattle.bz_model.specs.declared.channel.Phase.{Phase}
use Rattle.bz_model.specs.declared.channel.Phase.TheVariants.{Idle, Asked, Taken, Replied, Broken}
use Rattle.bz_model.specs.declared.event.Entry.{Entry}
use Rattle.bz_model.specs.declared.event.Entry.TheVariants.{Fired, Host, Rested}
use Rattle.bz_model.specs.declared.event.Reply.{Reply as Answered}
use Rattle.bz_model.specs.declared.event.Reply.TheVariants as said
use Rattle.bz_model.specs.declared.event.Verb.{Verb}
use Rattle.bz_model.specs.declared.event.Verb.TheVariants.{Offer, Collect, Accept, Answer, Watch}
use Rattle.bz_model.specs.Hosts.{host_after, refusal_at, reply_to}
use Rattle.bz_model.specs.Nets.{State, Step, Wiring, phase_at}
use Rattle.bz_model.specs.Phases.{allows, phase_after}
use Rattle.bz_model.specs.Runs.{Follows}
use Rattle.bz_flat.specs.Wires.{HasEnd, IsEnd, WellWired}
use Rattle.bz_net.specs.Sides.{answers, sends}
use Rattle.bz_net.proofs.Ties.{not_same}
use Rattle.bz_complete.specs.Shown.{short, shown, shown_move, shown_of, shown_word}
use Rattle.bz_complete.specs.Stopping.{IsDeadEnd, is_busy, replies, word_of}
use Rattle.bz_complete.specs.declared.short.Sent.{Sent}
use Rattle.bz_complete.specs.declared.short.Sent.TheVariants as sent
use Rattle.bz_complete.specs.declared.short.ShortMove.{ShortMove}
use Rattle.bz_complete.proofs.DeadEnds.{first_is, moved_elsewhere, moved_here, word_elsewhere, word_here}
use Rattle.bz_complete.proofs.Noticing.{entry_shows, same_move, silent, told}
use Rattle.bz_complete.proofs.Sending.{Reached, end, follows}

-- a word that shows a move
pub record WordTold (verb : Verb) (port : ℕ) (v : Option ℕ) (reply : Answered) (m : ShortMove) : Type 0 where
  pub verb_is : verb ≡ word_of m.sent
  pub chan : port ≡ m.chan
  pub value : v ≡ m.value
  pub done : reply ≡ said.Done

pub word_told : (verb : Verb) (k : ℕ) (v : Option ℕ) (reply : Answered) (m : ShortMove) → shown_word verb k v reply ≡ m ∷ [] → WordTold verb k v reply m
word_told Offer k v said.Done m e =
    let is = same_move (short sent.Ask k v) m e in
    record { verb_is = ap (λ (x : ShortMove). word_of x.sent) is; chan = ap (λ (x : ShortMove). x.chan) is; value = ap (λ (x : ShortMove). x.value) is; done = refl }
word_told Offer k v (said.Value x) m e = absurd (cc)
word_told Offer k v said.NotYet m e = absurd (cc)
word_told Offer k v (said.Busy phase) m e = absurd (cc)
word_told Offer k v (said.NotTaken phase) m e = absurd (cc)
word_told Offer k v (said.Watched phase) m e = absurd (cc)
word_told Answer k v said.Done m e =
    let is = same_move (short sent.Reply k v) m e in
    record { verb_is = ap (λ (x : ShortMove). word_of x.sent) is; chan = ap (λ (x : ShortMove). x.chan) is; value = ap (λ (x : ShortMove). x.value) is; done = refl }
word_told Answer k v (said.Value x) m e = absurd (cc)
word_told Answer k v said.NotYet m e = absurd (cc)
word_told Answer k v (said.Busy phase) m e = absurd (cc)
word_told Answer k v (said.NotTaken phase) m e = absurd (cc)
word_told Answer k v (said.Watched phase) m e = absurd (cc)
word_told Collect k v reply m e = absurd (cc)
word_told Accept k v reply m e = absurd (cc)
word_told Watch k v reply m e = absurd (cc)

-- what waits for a reply does so while nothing is shown
move_busy : (phase : Phase) (mv : Move) (v : Option ℕ) → IsTrue (allows phase mv) → sends mv ≡ false → is_busy (phase_after phase mv v) ≡ is_busy phase
move_busy phase Ask v a is = absurd (cc)
move_busy phase Reply v a is = absurd (cc)
move_busy Idle Take v a is = absurd (cc)
move_busy (Asked x) Take v a is = refl
move_busy Taken Take v a is = absurd (cc)
move_busy (Replied x) Take v a is = absurd (cc)
move_busy Broken Take v a is = absurd (cc)
move_busy Idle Got v a is = absurd (cc)
move_busy (Asked x) Got v a is = absurd (cc)
move_busy Taken Got v a is = absurd (cc)
move_busy (Replied x) Got v a is = refl
move_busy Broken Got v a is = absurd (cc)

word_busy : (verb : Verb) (phase : Phase) (k : ℕ) (v : Option ℕ) → shown_word verb k v (reply_to verb phase) ≡ [] → is_busy (host_after verb v phase) ≡ is_busy phase
word_busy Offer Idle k v none = absurd (cc)
word_busy Offer (Asked x) k v none = refl
word_busy Offer Taken k v none = refl
word_busy Offer (Replied x) k v none = refl
word_busy Offer Broken k v none = refl
word_busy Collect Idle k v none = refl
word_busy Collect (Asked x) k v none = refl
word_busy Collect Taken k v none = refl
word_busy Collect (Replied x) k v none = refl
word_busy Collect Broken k v none = refl
word_busy Accept Idle k v none = refl
word_busy Accept (Asked x) k v none = refl
word_busy Accept Taken k v none = refl
word_busy Accept (Replied x) k v none = refl
word_busy Accept Broken k v none = refl
word_busy Answer Idle k v none = refl
word_busy Answer (Asked x) k v none = refl
word_busy Answer Taken k v none = absurd (cc)
word_busy Answer (Replied x) k v none = refl
word_busy Answer Broken k v none = refl
word_busy Watch Idle k v none = refl
word_busy Watch (Asked x) k v none = refl
word_busy Watch Taken k v none = refl
word_busy Watch (Replied x) k v none = refl
word_busy Watch Broken k v none = refl

-- a word is done where its channel is in turn
in_turn : (m : ShortMove) (phase : Phase) → reply_to (word_of m.sent) phase ≡ said.Done → is_busy phase ≡ replies m.sent
in_turn m phase done = by m.sent phase done
  where
    by : (s : Sent) (phase : Phase) → reply_to (word_of s) phase ≡ said.Done → is_busy phase ≡ replies s
    by sent.Ask Idle done = refl
    by sent.Ask (Asked x) done = absurd (cc)
    by sent.Ask Taken done = absurd (cc)
    by sent.Ask (Replied x) done = absurd (cc)
    by sent.Ask Broken done = absurd (cc)
    by sent.Reply Idle done = absurd (cc)
    by sent.Reply (Asked x) done = absurd (cc)
    by sent.Reply Taken done = refl
    by sent.Reply (Replied x) done = absurd (cc)
    by sent.Reply Broken done = absurd (cc)

-- the same of a channel in a net
module _ (w : Wiring) (wired : WellWired w) (j : ℕ) (from : 0 < j) where
  pub silent_busy : (s next : State) (e : Entry) → Reached w s → Follows w s e next → shown_of e ≡ [] → is_busy (phase_at next j) ≡ is_busy (phase_at s j)
  silent_busy s next (Fired who c p k mv v) reached step shows = elim (cases_eq j k) [
    | inl e ↦
        let here : is_busy (phase_at next k) ≡ is_busy (phase_at s k) = ap is_busy (moved_here w wired s next c p k mv v reached step) ∙ move_busy (phase_at s k) mv v step.moves.allowed (silent k mv v shows) in
        ap (λ i. is_busy (phase_at next i)) e ∙ here ∙ ap (λ i. is_busy (phase_at s i)) (sym e)
    | inr off ↦ ap is_busy (moved_elsewhere w wired s next c p k mv v reached step j from off)
  ]
  silent_busy s next (Host who verb port v reply) reached step shows = elim (cases_eq j port) [
    | inl e ↦
        let quiet : shown_word verb port v (reply_to verb (phase_at s port)) ≡ [] = ap (shown_word verb port v) (sym step.reply_is) ∙ shows in
        let here : is_busy (phase_at next port) ≡ is_busy (phase_at s port) = ap is_busy (word_here w wired s next verb port v reply reached step) ∙ word_busy verb (phase_at s port) port v quiet in
        ap (λ i. is_busy (phase_at next i)) e ∙ here ∙ ap (λ i. is_busy (phase_at s i)) (sym e)
    | inr off ↦ ap is_busy (word_elsewhere w wired s next verb port v reply reached step j from off)
  ]
  silent_busy s next (Rested who) reached (rest, same) shows = ap (λ t. is_busy (phase_at t j)) same

module _ (w : Wiring) (wired : WellWired w) (m : ShortMove) where
  -- what holds while nothing is shown, and lets the move not be shown
  module _ (P : State → Type 0) (stays : (s next : State) (e : Entry) → Reached w s → P s → Follows w s e next → shown_of e ≡ [] → P next)
      (never : (s next : State) (e : Entry) → Reached w s → P s → Follows w s e next → shown_of e ≡ m ∷ [] → ⊥) where
    dead_by : (s : State) → Reached w s → P s → IsDeadEnd w s m
    dead_by s reached p [] last run shows = cc
    dead_by s reached p (e ∷ es) last (next, by, run) shows = elim (entry_shows e) [
      | inl silent ↦ dead_by next (follows w wired s next e reached by) (stays s next e reached p by silent) es last run (ap (λ xs. xs ++ shown es) (sym silent) ∙ shows)
      | inr (x, is) ↦ never s next e reached p by (is ∙ first_is x m (shown es) (ap (λ xs. xs ++ shown es) (sym is) ∙ shows))
    ]

  module _ (none : HasEnd w.sites m.chan (replies m.sent) → ⊥) where
    no_move : (s next : State) (c p k : ℕ) (mv : Move) (v : Option ℕ) → Reached w s → Step w.sites s c p k mv v next → shown_move k mv v ≡ m ∷ [] → ⊥
    no_move s next c p k mv v reached step shows =
        let tells = told k mv v m shows in
        let at : IsEnd w.sites k (answers mv) c p = end w wired s next c p k mv v reached step in
        none (c, p, subst (λ b. IsEnd w.sites m.chan b c p) tells.side (subst (λ j. IsEnd w.sites j (answers mv) c p) tells.chan at))

    -- there is no such port
    pub nobody_dead : (0 < m.chan → m.chan ≤ length w.ports → ⊥) → (s : State) → Reached w s → IsDeadEnd w s m
    nobody_dead out s reached = dead_by (λ _. Unit {0}) (λ _ _ _ _ _ _ _. tt) never s reached tt
      where
        never : (s next : State) (e : Entry) → Reached w s → Unit {0} → Follows w s e next → shown_of e ≡ m ∷ [] → ⊥
        never s next (Fired who c p k mv v) reached _ step shows = no_move s next c p k mv v reached step shows
        never s next (Host who verb port v reply) reached _ step shows =
            let chan = (word_told verb port v reply m shows).chan in
            out (subst (λ k. 0 < k) chan step.port_from) (subst (λ k. k ≤ length w.ports) chan step.port_to)
        never s next (Rested who) reached _ step shows = cc

    -- the word is refused
    pub word_dead : (refusal_at w (word_of m.sent) m.chan m.value ≡ None → ⊥) → (s : State) → Reached w s → IsDeadEnd w s m
    word_dead refused s reached = dead_by (λ _. Unit {0}) (λ _ _ _ _ _ _ _. tt) never s reached tt
      where
        never : (s next : State) (e : Entry) → Reached w s → Unit {0} → Follows w s e next → shown_of e ≡ m ∷ [] → ⊥
        never s next (Fired who c p k mv v) reached _ step shows = no_move s next c p k mv v reached step shows
        never s next (Host who verb port v reply) reached _ step shows =
            let is = word_told verb port v reply m shows in
            refused ((λ i. refusal_at w (sym is.verb_is i) (sym is.chan i) (sym is.value i)) ∙ step.agreed)
        never s next (Rested who) reached _ step shows = cc

    -- the channel is out of turn
    pub turn_dead : 0 < m.chan → (s : State) → Reached w s → is_busy (phase_at s m.chan) ≡ not (replies m.sent) → IsDeadEnd w s m
    turn_dead from s reached busy = dead_by (λ t. is_busy (phase_at t m.chan) ≡ not (replies m.sent)) stays never s reached busy
      where
        stays : (s next : State) (e : Entry) → Reached w s → is_busy (phase_at s m.chan) ≡ not (replies m.sent) → Follows w s e next → shown_of e ≡ [] → is_busy (phase_at next m.chan) ≡ not (replies m.sent)
        stays s next e reached busy by shows = silent_busy w wired m.chan from s next e reached by shows ∙ busy

        never : (s next : State) (e : Entry) → Reached w s → is_busy (phase_at s m.chan) ≡ not (replies m.sent) → Follows w s e next → shown_of e ≡ m ∷ [] → ⊥
        never s next (Fired who c p k mv v) reached busy step shows = no_move s next c p k mv v reached step shows
        never s next (Host who verb port v reply) reached busy step shows =
            let is = word_told verb port v reply m shows in
            let done : reply_to (word_of m.sent) (phase_at s m.chan) ≡ said.Done = (λ i. reply_to (sym is.verb_is i) (phase_at s (sym is.chan i))) ∙ sym step.reply_is ∙ is.done in
            not_same (replies m.sent) (sym (in_turn m (phase_at s m.chan) done) ∙ busy)
        never s next (Rested who) reached busy step shows = cc
