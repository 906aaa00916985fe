-- Where no run goes on to show a move.
use Rattle.std.proofs.Common.{◌≡◌, ◌≢◌, inl, inr, ℕ, ◌<◌, ◌≤◌, Bool, true, false, not, Option, List, [], ◌∷◌, ◌++◌, length, IsTrue, refl, sym, ap, subst, ◌∙◌, arith}
use Rattle.std.proofs.lemmas.Bool.{cases_eq, false≢true}
use Rattle.bz_model.specs.declared.channel.Move.{Move}
use Rattle.bz_model.specs.declared.channel.Phase.TheVariants.{Idle}
use Rattle.bz_model.specs.declared.event.Entry.{Entry}
use Rattle.bz_model.specs.declared.event.Entry.TheVariants.{Fired, Host, Rested}
use Rattle.bz_model.specs.declared.event.Reply.{Reply}
use Rattle.bz_model.specs.declared.event.Reply.TheVariants as said
use Rattle.bz_model.specs.declared.event.Verb.{Verb}
use Rattle.bz_model.specs.declared.event.Verb.TheVariants.{Offer, Collect, Accept, Answer, Watch}
use Rattle.bz_model.specs.Heads.{CanMove, IsHeadOn}
use Rattle.bz_model.specs.Hosts.{HostStep, fits_side, host_after, port_is_passive}
use Rattle.bz_model.specs.Nets.{State, Step, Wiring, IsPort, chan_at, no_proc, phase_at, proc_at}
use Rattle.bz_model.specs.Phases.{allows, incoming, phase_after}
use Rattle.bz_model.specs.Runs.{Follows}
use Rattle.bz_model.specs.Terms.{value_of}
use Rattle.bz_flat.specs.Wires.{IsEnd, WellWired}
use Rattle.bz_net.specs.Sides.{answers, sends}
use Rattle.bz_net.proofs.Hosts.{side_from}
use Rattle.bz_net.proofs.Ties.{at_other, at_same}
use Rattle.bz_complete.proofs.Sending.{Reached, follows}
use Rattle.bz_complete.proofs.Sending.{end as end_of}
use Rattle.bz_complete.specs.Shown.{short, shown, shown_move, shown_of, shown_word}
use Rattle.bz_complete.specs.Stopping.{HasSent, IsDeadEnd, IsQuiet, Notices, replies}
use Rattle.bz_complete.specs.declared.short.ShortMove.{ShortMove}
use Rattle.bz_complete.specs.declared.short.Sent.TheVariants as sent
use Rattle.bz_complete.proofs.Noticing.{Calm, SameOrCalm, carried_sent, entry_shows, noticed, same_move, silent, told, word_calm}

pub first_is : (x m : ShortMove) (xs : List ShortMove) → x ∷ xs ≡ m ∷ [] → x ∷ [] ≡ m ∷ []
first_is x m xs e = cc

module _ (w : Wiring) (wired : WellWired w) where
  -- the phase of a channel behind a move of a component there, and elsewhere
  module _ (s next : State) (c p j : ℕ) (mv : Move) (v : Option ℕ) (reached : Reached w s) (step : Step w.sites s c p j mv v next) where
    on : 0 < j
    on = subst (λ n. 0 < n) (sym step.chan_is) (wired.chan_from c p step.steps_at.is_port)

    within : j ≤ length s.phases
    within =
        let to = wired.chan_to c p step.steps_at.is_port in
        let len = reached.phases in
        let is = step.chan_is in
        omega (arith, to, len, is)

    pub moved_here : phase_at next j ≡ phase_after (phase_at s j) mv v
    moved_here = ap (λ t. phase_at t j) step.next_is ∙ at_same s.phases j (phase_after (phase_at s j) mv v) Idle on within

    pub moved_elsewhere : (k : ℕ) → 0 < k → k ≢ j → phase_at next k ≡ phase_at s k
    moved_elsewhere k from ne = ap (λ t. phase_at t k) step.next_is ∙ at_other s.phases j k (phase_after (phase_at s j) mv v) Idle on from ne

    pub other_proc : (d : ℕ) → 0 < d → d ≢ c → proc_at next d ≡ proc_at s d
    other_proc d from ne = ap (λ t. proc_at t d) step.next_is ∙ at_other s.procs c d step.rest no_proc step.steps_at.is_port.comp_from from ne

  -- and behind a word of the host
  module _ (s next : State) (verb : Verb) (port : ℕ) (v : Option ℕ) (reply : Reply) (reached : Reached w s) (step : HostStep w s verb port v reply next) where
    pub word_here : phase_at next port ≡ host_after verb v (phase_at s port)
    word_here =
        let to = step.port_to in
        let len = reached.phases in
        let few = wired.ports_to in
        ap (λ t. phase_at t port) step.next_is ∙ at_same s.phases port (host_after verb v (phase_at s port)) Idle step.port_from (omega (arith, to, len, few))

    pub word_elsewhere : (k : ℕ) → 0 < k → k ≢ port → phase_at next k ≡ phase_at s k
    word_elsewhere k from ne = ap (λ t. phase_at t k) step.next_is ∙ at_other s.phases port k (host_after verb v (phase_at s port)) Idle step.port_from from ne

    pub word_proc : (d : ℕ) → proc_at next d ≡ proc_at s d
    word_proc d = ap (λ t. proc_at t d) step.next_is

  -- ---- a component that has nothing to notice

  module _ (c : ℕ) (from : 0 < c) where
    -- what stays of it where nothing is shown
    record Stays (s next : State) : Type 0 where
      pub proc : proc_at next c ≡ proc_at s c
      pub quiet : IsQuiet w.sites next c

    still : (s next : State) → proc_at next c ≡ proc_at s c → ((p : ℕ) → IsPort w.sites c p → SameOrCalm (phase_at s (chan_at w.sites c p)) (phase_at next (chan_at w.sites c p))) → IsQuiet w.sites s c → Stays s next
    still s next proc phase quiet = record {
      proc = proc;
      quiet = λ p (at, is).
          let head = at.can.0 in
          let here : IsHeadOn (proc_at s c) p head = subst (λ q. IsHeadOn q p head) proc at.can.1 in
          elim (phase p at.is_port) [
            | inl same ↦ quiet p (record { is_port = at.is_port; can = (head, here, subst (λ f. IsTrue (allows f head.move)) same at.can.2) }, is)
            | inr calm ↦ calm head.move is at.can.2
          ];
    }

    by_move : (s next : State) (d q j : ℕ) (mv : Move) (v : Option ℕ) → Reached w s → IsQuiet w.sites s c → Step w.sites s d q j mv v next → sends mv ≡ false → Stays s next
    by_move s next d q j mv v reached quiet step is =
        let is_head : sends step.moves.head.move ≡ false = ap sends (sym step.moves.move_is) ∙ is in
        let can : CanMove (proc_at s d) q (phase_at s (chan_at w.sites d q)) =
        (step.moves.head, step.moves.on, subst (λ k. IsTrue (allows (phase_at s k) step.moves.head.move)) step.chan_is (subst (λ m. IsTrue (allows (phase_at s j) m)) step.moves.move_is step.moves.allowed)) in
        let at : Notices w.sites s d q = (record { is_port = step.steps_at.is_port; can = can }, is_head) in
        elim (cases_eq d c) [
          | inl e ↦ absurd (quiet q (subst (λ o. Notices w.sites s o q) e at))
          | inr ne ↦ still s next (other_proc s next d q j mv v reached step c from (λ e. ne (sym e)))
              (λ p port. elim (cases_eq (chan_at w.sites c p) j) [
                | inl e ↦ inr (subst Calm (sym (ap (phase_at next) e ∙ moved_here s next d q j mv v reached step)) (noticed (phase_at s j) mv v is))
                | inr off ↦ inl (moved_elsewhere s next d q j mv v reached step (chan_at w.sites c p) (wired.chan_from c p port) off)
              ]) quiet
        ]

    by_word : (s next : State) (verb : Verb) (port : ℕ) (v : Option ℕ) (reply : Reply) → Reached w s → IsQuiet w.sites s c → HostStep w s verb port v reply next → shown_word verb port v reply ≡ [] → Stays s next
    by_word s next verb port v reply reached quiet step none =
        let calm : SameOrCalm (phase_at s port) (phase_at next port) =
        subst (SameOrCalm (phase_at s port)) (sym (word_here s next verb port v reply reached step)) (word_calm verb port v (phase_at s port) (ap (shown_word verb port v) (sym step.reply_is) ∙ none)) in
        still s next (word_proc s next verb port v reply reached step c)
        (λ p at. elim (cases_eq (chan_at w.sites c p) port) [
          | inl e ↦ subst (λ k. SameOrCalm (phase_at s k) (phase_at next k)) (sym e) calm
          | inr off ↦ inl (word_elsewhere s next verb port v reply reached step (chan_at w.sites c p) (wired.chan_from c p at) off)
        ]) quiet

    stays : (s next : State) (e : Entry) → Reached w s → IsQuiet w.sites s c → Follows w s e next → shown_of e ≡ [] → Stays s next
    stays s next (Fired who d q j mv v) reached quiet step none = by_move s next d q j mv v reached quiet step (silent j mv v none)
    stays s next (Host who verb port v reply) reached quiet step none = by_word s next verb port v reply reached quiet step none
    stays s next (Rested who) reached quiet (rest, same) none = subst (Stays s) (sym same) (record { proc = refl; quiet = quiet })

    -- ---- what shows its move is the component

    module _ (p : ℕ) (m : ShortMove) (end : IsEnd w.sites m.chan (replies m.sent) c p) where
      sent_by_move : (s next : State) (d q j : ℕ) (mv : Move) (v : Option ℕ) → Reached w s → Step w.sites s d q j mv v next → shown_move j mv v ≡ m ∷ [] → HasSent (proc_at s c) p m
      sent_by_move s next d q j mv v reached step shows =
          let tells = told j mv v m shows in
          let head = step.moves.head in
          let there : IsEnd w.sites j (answers mv) d q = end_of w wired s next d q j mv v reached step in
          let same = wired.one_end d q c p there.is_port end.is_port (there.on ∙ tells.chan ∙ sym end.on) (there.sense ∙ tells.side ∙ sym end.sense) in
          let is_sent : sends head.move ≡ true = ap sends (sym step.moves.move_is) ∙ tells.sent_is in
          let value : v ≡ value_of head.gives (proc_at s d).store = step.moves.value_is ∙ carried_sent head.move head.gives (proc_at s d).store (incoming (phase_at s j) head.move) is_sent in
          let shows' : shown_move m.chan head.move (value_of head.gives (proc_at s d).store) ≡ m ∷ [] =
          (λ i. shown_move (sym tells.chan i) (sym step.moves.move_is i) (sym value i)) ∙ shows in
          subst (λ o. HasSent (proc_at s o) p m) same.0 (subst (λ o. HasSent (proc_at s d) o m) same.1 (head, step.moves.on, shows'))

      no_word : (s next : State) (verb : Verb) (port : ℕ) (v : Option ℕ) (reply : Reply) → HostStep w s verb port v reply next → shown_word verb port v reply ≡ m ∷ [] → ⊥
      no_word s next verb port v reply step shows = by_verb verb port v reply (side_from w verb port v step.agreed) step.port_to shows
        where
          here : (k : ℕ) (b : Bool) → m.chan ≡ k → replies m.sent ≡ b → k ≤ length w.ports → port_is_passive w.ports k ≡ b
          here k b chan side to =
              let at : chan_at w.sites c p ≤ length w.ports = subst (λ n. n ≤ length w.ports) (sym (end.on ∙ chan)) to in
              ap (port_is_passive w.ports) (sym (end.on ∙ chan)) ∙ sym (wired.host_end c p end.is_port at) ∙ end.sense ∙ side

          by_verb : (verb : Verb) (k : ℕ) (v : Option ℕ) (reply : Reply) → fits_side verb (port_is_passive w.ports k) ≡ true → k ≤ length w.ports → shown_word verb k v reply ≡ m ∷ [] → ⊥
          by_verb Offer k v said.Done fits to e =
              let is = same_move (short sent.Ask k v) m e in
              let other = here k false (sym (ap (λ (x : ShortMove). x.chan) is)) (sym (ap (λ (x : ShortMove). replies x.sent) is)) to in
              false≢true (sym other ∙ fits)
          by_verb Offer k v (said.Value x) fits to e = cc
          by_verb Offer k v said.NotYet fits to e = cc
          by_verb Offer k v (said.Busy phase) fits to e = cc
          by_verb Offer k v (said.NotTaken phase) fits to e = cc
          by_verb Offer k v (said.Watched phase) fits to e = cc
          by_verb Answer k v said.Done fits to e =
              let is = same_move (short sent.Reply k v) m e in
              let other = here k true (sym (ap (λ (x : ShortMove). x.chan) is)) (sym (ap (λ (x : ShortMove). replies x.sent) is)) to in
              false≢true (sym (ap not other) ∙ fits)
          by_verb Answer k v (said.Value x) fits to e = cc
          by_verb Answer k v said.NotYet fits to e = cc
          by_verb Answer k v (said.Busy phase) fits to e = cc
          by_verb Answer k v (said.NotTaken phase) fits to e = cc
          by_verb Answer k v (said.Watched phase) fits to e = cc
          by_verb Collect k v reply fits to e = cc
          by_verb Accept k v reply fits to e = cc
          by_verb Watch k v reply fits to e = cc

      sent_by : (s next : State) (e : Entry) → Reached w s → Follows w s e next → shown_of e ≡ m ∷ [] → HasSent (proc_at s c) p m
      sent_by s next (Fired who d q j mv v) reached step shows = sent_by_move s next d q j mv v reached step shows
      sent_by s next (Host who verb port v reply) reached step shows = absurd (no_word s next verb port v reply step shows)
      sent_by s next (Rested who) reached step shows = absurd (cc)

      pub comp_dead : (s : State) → Reached w s → IsQuiet w.sites s c → (HasSent (proc_at s c) p m → ⊥) → IsDeadEnd w s m
      comp_dead s reached quiet none [] last run shows = cc
      comp_dead s reached quiet none (e ∷ es) last (next, by, run) shows = elim (entry_shows e) [
        | inl silent ↦
            let kept = stays s next e reached quiet by silent in
            comp_dead next (follows w wired s next e reached by) kept.quiet (λ has. none (subst (λ q. HasSent q p m) kept.proc has)) es last run (ap (λ xs. xs ++ shown es) (sym silent) ∙ shows)
        | inr (x, is) ↦ none (sent_by s next e reached by (is ∙ first_is x m (shown es) (ap (λ xs. xs ++ shown es) (sym is) ∙ shows)))
      ]
