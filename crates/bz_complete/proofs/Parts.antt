-- What a run of a net is for one component by itself: it notices, it sends, or something comes to it.
use Rattle.std.proofs.Common.{◌≡◌, ◌≢◌, ◌⊎◌, inl, inr, ℕ, ◌<◌, ◌≤◌, Bool, true, false, not, Option, Some, None, [], ◌∷◌, length, IsTrue, refl, sym, ap, subst, ◌∙◌}
use Rattle.std.proofs.lemmas.Bool.{cases_eq}
use Rattle.bz_model.specs.declared.channel.Move.{Move}
use Rattle.bz_model.specs.declared.channel.Move.TheVariants.{Ask, Take, Reply, Got}
use Rattle.bz_model.specs.declared.channel.Phase.{Phase}
use Rattle.bz_model.specs.declared.channel.Phase.TheVariants.{Idle, Asked, Taken, Replied, Broken}
use Rattle.bz_model.specs.declared.event.Entry.{Entry}
use Rattle.bz_model.specs.declared.event.Entry.TheVariants.{Fired, Host, Rested}
use Rattle.bz_model.specs.declared.event.Reply.{Reply as Answered}
use Rattle.bz_model.specs.declared.event.Reply.TheVariants as said
use Rattle.bz_model.specs.declared.event.Verb.{Verb}
use Rattle.bz_model.specs.declared.event.Verb.TheVariants.{Offer, Collect, Accept, Answer, Watch}
use Rattle.bz_model.specs.Heads.{IsHeadOn, after_head}
use Rattle.bz_model.specs.Hosts.{HostStep, fits_side, host_after, port_is_passive, reply_to}
use Rattle.bz_model.specs.Nets.{State, Step, Wiring, IsPort, chan_at, passive_at, phase_at, proc_at}
use Rattle.bz_model.specs.Phases.{allows, incoming, phase_after}
use Rattle.bz_model.specs.Runs.{Follows}
use Rattle.bz_model.specs.Terms.{value_of}
use Rattle.bz_flat.specs.Wires.{IsEnd, WellWired}
use Rattle.bz_net.specs.Sides.{answers, sends}
use Rattle.bz_net.specs.Unbroken.{IsUnbroken}
use Rattle.bz_net.proofs.Hosts.{side_from}
use Rattle.bz_net.proofs.Ties.{either_of, not_same}
use Rattle.bz_complete.specs.Shown.{shown_move, shown_of, shown_word}
use Rattle.bz_complete.specs.Stopping.{replies, word_of}
use Rattle.bz_complete.specs.declared.short.Sent.{Sent}
use Rattle.bz_complete.specs.declared.short.Sent.TheVariants as sent
use Rattle.bz_complete.specs.declared.short.ShortMove.{ShortMove}
use Rattle.bz_complete.proofs.Alone.{Hears, Local, Makes, Same}
use Rattle.bz_complete.proofs.DeadEnds.{moved_elsewhere, moved_here, other_proc, word_elsewhere, word_here, word_proc}
use Rattle.bz_complete.proofs.HostEnds.{WordTold, word_told}
use Rattle.bz_complete.proofs.Noticing.{Told, carried_sent, silent, told}
use Rattle.bz_complete.proofs.Sending.{Reached, end, here}

-- ---- one channel

-- what waits at an end to be taken or got, at the passive one where `passive` is true
abbrev pub waiting : Bool → Phase → Option (Option ℕ)
waiting true (Asked v) = Some v
waiting true Idle = None
waiting true Taken = None
waiting true (Replied v) = None
waiting true Broken = None
waiting false (Asked v) = None
waiting false Idle = None
waiting false Taken = None
waiting false (Replied v) = Some v
waiting false Broken = None

-- what is taken or got waited, and waits no more; and at the other end nothing changes
record Noticed (phase : Phase) (mv : Move) (v : Option ℕ) : Type 0 where
  pub came : waiting (answers mv) phase ≡ Some (incoming phase mv)
  pub gone : waiting (answers mv) (phase_after phase mv v) ≡ None
  pub other : waiting (not (answers mv)) (phase_after phase mv v) ≡ waiting (not (answers mv)) phase

notice : (phase : Phase) (mv : Move) (v : Option ℕ) → IsTrue (allows phase mv) → sends mv ≡ false → Noticed phase mv v
notice phase Ask v a is = absurd (cc)
notice phase Reply v a is = absurd (cc)
notice Idle Take v a is = absurd (cc)
notice (Asked x) Take v a is = record { came = refl; gone = refl; other = refl }
notice Taken Take v a is = absurd (cc)
notice (Replied x) Take v a is = absurd (cc)
notice Broken Take v a is = absurd (cc)
notice Idle Got v a is = absurd (cc)
notice (Asked x) Got v a is = absurd (cc)
notice Taken Got v a is = absurd (cc)
notice (Replied x) Got v a is = record { came = refl; gone = refl; other = refl }
notice Broken Got v a is = absurd (cc)

-- and what waits can be
pub can_notice : (phase : Phase) (mv : Move) (v : Option ℕ) → sends mv ≡ false → waiting (answers mv) phase ≡ Some v → IsTrue (allows phase mv)
can_notice phase Ask v is came = absurd (cc)
can_notice phase Reply v is came = absurd (cc)
can_notice Idle Take v is came = absurd (cc)
can_notice (Asked x) Take v is came = refl
can_notice Taken Take v is came = absurd (cc)
can_notice (Replied x) Take v is came = absurd (cc)
can_notice Broken Take v is came = absurd (cc)
can_notice Idle Got v is came = absurd (cc)
can_notice (Asked x) Got v is came = absurd (cc)
can_notice Taken Got v is came = absurd (cc)
can_notice (Replied x) Got v is came = refl
can_notice Broken Got v is came = absurd (cc)

-- what is sent comes to the other end, where nothing waited; and at its own end nothing changes
record Sends (phase : Phase) (mv : Move) (v : Option ℕ) : Type 0 where
  pub none : waiting (not (answers mv)) phase ≡ None
  pub comes : waiting (not (answers mv)) (phase_after phase mv v) ≡ Some v
  pub own : waiting (answers mv) (phase_after phase mv v) ≡ waiting (answers mv) phase

send : (phase : Phase) (mv : Move) (v : Option ℕ) → phase_after phase mv v ≢ Broken → sends mv ≡ true → Sends phase mv v
send phase Take v whole is = absurd (cc)
send phase Got v whole is = absurd (cc)
send Idle Ask v whole is = record { none = refl; comes = refl; own = refl }
send (Asked x) Ask v whole is = absurd (whole refl)
send Taken Ask v whole is = absurd (whole refl)
send (Replied x) Ask v whole is = absurd (whole refl)
send Broken Ask v whole is = absurd (whole refl)
send Idle Reply v whole is = absurd (whole refl)
send (Asked x) Reply v whole is = absurd (whole refl)
send Taken Reply v whole is = record { none = refl; comes = refl; own = refl }
send (Replied x) Reply v whole is = absurd (whole refl)
send Broken Reply v whole is = absurd (whole refl)

-- the same of the host's words
word_quiet : (verb : Verb) (k : ℕ) (v : Option ℕ) (phase : Phase) (side : Bool) → fits_side verb side ≡ true → shown_word verb k v (reply_to verb phase) ≡ [] → waiting side (host_after verb v phase) ≡ waiting side phase
word_quiet Offer k v Idle side fits none = absurd (cc)
word_quiet Offer k v (Asked x) side fits none = refl
word_quiet Offer k v Taken side fits none = refl
word_quiet Offer k v (Replied x) side fits none = refl
word_quiet Offer k v Broken side fits none = refl
word_quiet Collect k v Idle side fits none = refl
word_quiet Collect k v (Asked x) side fits none = refl
word_quiet Collect k v Taken side fits none = refl
word_quiet Collect k v (Replied x) true fits none = refl
word_quiet Collect k v (Replied x) false fits none = absurd (cc)
word_quiet Collect k v Broken side fits none = refl
word_quiet Accept k v Idle side fits none = refl
word_quiet Accept k v (Asked x) true fits none = absurd (cc)
word_quiet Accept k v (Asked x) false fits none = refl
word_quiet Accept k v Taken side fits none = refl
word_quiet Accept k v (Replied x) side fits none = refl
word_quiet Accept k v Broken side fits none = refl
word_quiet Answer k v Idle side fits none = refl
word_quiet Answer k v (Asked x) side fits none = refl
word_quiet Answer k v Taken side fits none = absurd (cc)
word_quiet Answer k v (Replied x) side fits none = refl
word_quiet Answer k v Broken side fits none = refl
word_quiet Watch k v Idle side fits none = refl
word_quiet Watch k v (Asked x) side fits none = refl
word_quiet Watch k v Taken side fits none = refl
word_quiet Watch k v (Replied x) side fits none = refl
word_quiet Watch k v Broken side fits none = refl

-- a word that sends stands at the end of the host, and what it sends comes to the other
record WordSends (s : Sent) (v : Option ℕ) (phase : Phase) (side : Bool) : Type 0 where
  pub side_is : side ≡ not (replies s)
  pub none : waiting side phase ≡ None
  pub comes : waiting side (host_after (word_of s) v phase) ≡ Some v

word_send : (s : Sent) (v : Option ℕ) (phase : Phase) (side : Bool) → fits_side (word_of s) side ≡ true → reply_to (word_of s) phase ≡ said.Done → WordSends s v phase side
word_send sent.Ask v Idle true fits done = record { side_is = refl; none = refl; comes = refl }
word_send sent.Ask v Idle false fits done = absurd (cc)
word_send sent.Ask v (Asked x) side fits done = absurd (cc)
word_send sent.Ask v Taken side fits done = absurd (cc)
word_send sent.Ask v (Replied x) side fits done = absurd (cc)
word_send sent.Ask v Broken side fits done = absurd (cc)
word_send sent.Reply v Idle side fits done = absurd (cc)
word_send sent.Reply v (Asked x) side fits done = absurd (cc)
word_send sent.Reply v Taken true fits done = absurd (cc)
word_send sent.Reply v Taken false fits done = record { side_is = refl; none = refl; comes = refl }
word_send sent.Reply v (Replied x) side fits done = absurd (cc)
word_send sent.Reply v Broken side fits done = absurd (cc)

no_incoming : (phase : Phase) (mv : Move) → sends mv ≡ true → incoming phase mv ≡ None
no_incoming Idle Ask is = refl
no_incoming (Asked x) Ask is = refl
no_incoming Taken Ask is = refl
no_incoming (Replied x) Ask is = refl
no_incoming Broken Ask is = refl
no_incoming phase Take is = absurd (cc)
no_incoming Idle Reply is = refl
no_incoming (Asked x) Reply is = refl
no_incoming Taken Reply is = refl
no_incoming (Replied x) Reply is = refl
no_incoming Broken Reply is = refl
no_incoming phase Got is = absurd (cc)

-- ---- one component

module _ (w : Wiring) (wired : WellWired w) (c : ℕ) (from : 0 < c) where
  -- a component in a state of the net
  abbrev pub part : State → Local
  part s = record { proc = proc_at s c; waits = λ p. waiting (passive_at w.sites c p) (phase_at s (chan_at w.sites c p)) }

  abbrev SameOrHears : State → State → Type 0
  SameOrHears s next = Same w.sites c (part s) (part next) ⊎ ((p : ℕ) × Hears w.sites c (part s) p (part next))

  -- a port of another end of a channel
  module _ (d q j : ℕ) (side : Bool) (there : IsEnd w.sites j side d q) (p : ℕ) (at : IsPort w.sites c p) (on : chan_at w.sites c p ≡ j) where
    at_one : passive_at w.sites c p ≡ side → (d ≡ c) × (q ≡ p)
    at_one is = wired.one_end d q c p there.is_port at (there.on ∙ sym on) (there.sense ∙ sym is)

    other_side : ((d ≡ c) × (q ≡ p) → ⊥) → passive_at w.sites c p ≡ not side
    other_side apart = elim (either_of (passive_at w.sites c p) side) [ inl is ↦ absurd (apart (at_one is)) | inr is ↦ is ]

  module _ (s next : State) (d q j : ℕ) (mv : Move) (v : Option ℕ) (reached : Reached w s) (step : Step w.sites s d q j mv v next) where
    there : IsEnd w.sites j (answers mv) d q
    there = end w wired s next d q j mv v reached step

    abbrev old : Phase
    old = phase_at s j

    now_is : phase_at next j ≡ phase_after old mv v
    now_is = moved_here w wired s next d q j mv v reached step

    waits_at : (p : ℕ) (side : Bool) → chan_at w.sites c p ≡ j → passive_at w.sites c p ≡ side → (part s).waits p ≡ waiting side old
    waits_at p side on is = (λ i. waiting (is i) (phase_at s (on i)))

    waits_then : (p : ℕ) (side : Bool) → chan_at w.sites c p ≡ j → passive_at w.sites c p ≡ side → (part next).waits p ≡ waiting side (phase_after old mv v)
    waits_then p side on is = (λ i. waiting (is i) (phase_at next (on i))) ∙ ap (waiting side) now_is

    elsewhere : (p : ℕ) → IsPort w.sites c p → chan_at w.sites c p ≢ j → (part next).waits p ≡ (part s).waits p
    elsewhere p at off = ap (waiting (passive_at w.sites c p)) (moved_elsewhere w wired s next d q j mv v reached step (chan_at w.sites c p) (wired.chan_from c p at) off)

    allowed : IsTrue (allows old mv)
    allowed = step.moves.allowed

    -- a take or a got
    module _ (is : sends mv ≡ false) where
      has : Noticed old mv v
      has = notice old mv v allowed is

      others : (p : ℕ) → IsPort w.sites c p → ((d ≡ c) × (q ≡ p) → ⊥) → (part next).waits p ≡ (part s).waits p
      others p at apart = elim (cases_eq (chan_at w.sites c p) j) [
        | inl on ↦
            let side = other_side d q j (answers mv) there p at on apart in
            waits_then p (not (answers mv)) on side ∙ has.other ∙ sym (waits_at p (not (answers mv)) on side)
        | inr off ↦ elsewhere p at off
      ]

      moved_part : SameOrHears s next
      moved_part = elim (cases_eq c d) [
        | inl e ↦
            let sense : passive_at w.sites c q ≡ answers mv = ap (λ o. passive_at w.sites o q) e ∙ there.sense in
            let on : chan_at w.sites c q ≡ j = ap (λ o. chan_at w.sites o q) e ∙ there.on in
            let head = step.moves.head in
            inr (
              q,
              record {
                port = subst (λ o. IsPort w.sites o q) (sym e) step.steps_at.is_port;
                head = head;
                on = subst (λ o. IsHeadOn (proc_at s o) q head) (sym e) step.moves.on;
                is = ap sends (sym step.moves.move_is) ∙ is;
                value = incoming old head.move;
                came = waits_at q (answers mv) on sense ∙ has.came ∙ ap (λ x. Some (incoming old x)) step.moves.move_is;
                leaves = ap (proc_at next) e ∙ here w wired s next d q j mv v reached step ∙ step.moves.leaves ∙ ap (λ o. after_head (proc_at s o) head (incoming old head.move)) (sym e);
                gone = waits_then q (answers mv) on sense ∙ has.gone;
                others = λ p at ne. others p at (λ (_, same). ne (sym same));
              },
            )
        | inr ne ↦ inl (record {
          proc = other_proc w wired s next d q j mv v reached step c from ne;
          waits = λ p at. others p at (λ (same, _). ne (sym same));
        })
      ]

    -- a request or a reply
    module _ (m : ShortMove) (whole : IsUnbroken next) (shows : shown_move j mv v ≡ m ∷ []) where
      tells : Told j mv v m
      tells = told j mv v m shows

      does : Sends old mv v
      does = send old mv v (λ broken. whole j (now_is ∙ broken)) tells.sent_is

      made_part : Makes w.sites c m (part s) (part next)
      made_part = record {
        by = elim (cases_eq c d) [
          | inl e ↦
              let head = step.moves.head in
              let is_sent : sends head.move ≡ true = ap sends (sym step.moves.move_is) ∙ tells.sent_is in
              let value : v ≡ value_of head.gives (proc_at s d).store = step.moves.value_is ∙ carried_sent head.move head.gives (proc_at s d).store (incoming old head.move) is_sent in
              inl (record {
                port = q;
                end = subst (λ o. IsEnd w.sites m.chan (replies m.sent) o q) (sym e) (subst (λ b. IsEnd w.sites m.chan b d q) tells.side (subst (λ k. IsEnd w.sites k (answers mv) d q) tells.chan there));
                head = head;
                on = subst (λ o. IsHeadOn (proc_at s o) q head) (sym e) step.moves.on;
                shows = subst (λ o. shown_move m.chan head.move (value_of head.gives (proc_at s o).store) ≡ m ∷ []) (sym e)
                    ((λ i. shown_move (sym tells.chan i) (sym step.moves.move_is i) (sym value i)) ∙ shows);
                leaves = ap (proc_at next) e ∙ here w wired s next d q j mv v reached step ∙ step.moves.leaves
                    ∙ ap (after_head (proc_at s d) head) (no_incoming old head.move is_sent) ∙ ap (λ o. after_head (proc_at s o) head None) (sym e);
              })
          | inr ne ↦ inr (record {
            none = λ p end. ne (sym (at_one d q j (answers mv) there p end.is_port (end.on ∙ sym tells.chan) (end.sense ∙ sym tells.side)).0);
            proc = other_proc w wired s next d q j mv v reached step c from ne;
          })
        ];
        comes = λ p end.
            let on : chan_at w.sites c p ≡ j = end.on ∙ sym tells.chan in
            let side : passive_at w.sites c p ≡ not (answers mv) = end.sense ∙ ap not (sym tells.side) in
            (waits_at p (not (answers mv)) on side ∙ does.none, waits_then p (not (answers mv)) on side ∙ does.comes ∙ ap Some tells.value);
        others = λ p at off. elim (cases_eq (chan_at w.sites c p) j) [
          | inl on ↦ elim (either_of (passive_at w.sites c p) (answers mv)) [
            | inl side ↦ waits_then p (answers mv) on side ∙ does.own ∙ sym (waits_at p (answers mv) on side)
            | inr side ↦ absurd (off (record { is_port = at; on = on ∙ tells.chan; sense = side ∙ ap not tells.side }))
          ]
          | inr away ↦ elsewhere p at away
        ];
      }

  module _ (s next : State) (verb : Verb) (port : ℕ) (v : Option ℕ) (reply : Answered) (reached : Reached w s) (step : HostStep w s verb port v reply next) where
    fits : fits_side verb (port_is_passive w.ports port) ≡ true
    fits = side_from w verb port v step.agreed

    side_there : (p : ℕ) → IsPort w.sites c p → chan_at w.sites c p ≡ port → passive_at w.sites c p ≡ port_is_passive w.ports port
    side_there p at on = wired.host_end c p at (subst (λ k. k ≤ length w.ports) (sym on) step.port_to) ∙ ap (port_is_passive w.ports) on

    word_waits : (p : ℕ) → IsPort w.sites c p → chan_at w.sites c p ≡ port → (part s).waits p ≡ waiting (port_is_passive w.ports port) (phase_at s port)
    word_waits p at on = (λ i. waiting (side_there p at on i) (phase_at s (on i)))

    word_then : (p : ℕ) → IsPort w.sites c p → chan_at w.sites c p ≡ port → (part next).waits p ≡ waiting (port_is_passive w.ports port) (host_after verb v (phase_at s port))
    word_then p at on = (λ i. waiting (side_there p at on i) (phase_at next (on i))) ∙ ap (waiting (port_is_passive w.ports port)) (word_here w wired s next verb port v reply reached step)

    word_away : (p : ℕ) → IsPort w.sites c p → chan_at w.sites c p ≢ port → (part next).waits p ≡ (part s).waits p
    word_away p at off = ap (waiting (passive_at w.sites c p)) (word_elsewhere w wired s next verb port v reply reached step (chan_at w.sites c p) (wired.chan_from c p at) off)

    word_same : shown_word verb port v reply ≡ [] → Same w.sites c (part s) (part next)
    word_same none = record {
      proc = word_proc w wired s next verb port v reply reached step c;
      waits = λ p at. elim (cases_eq (chan_at w.sites c p) port) [
        | inl on ↦ word_then p at on ∙ word_quiet verb port v (phase_at s port) (port_is_passive w.ports port) fits (ap (shown_word verb port v) (sym step.reply_is) ∙ none) ∙ sym (word_waits p at on)
        | inr off ↦ word_away p at off
      ];
    }

    word_made : (m : ShortMove) → shown_word verb port v reply ≡ m ∷ [] → Makes w.sites c m (part s) (part next)
    word_made m shows = record {
      by = inr (record {
        none = λ p end.
            let on : chan_at w.sites c p ≡ port = end.on ∙ sym is.chan in
            not_same (replies m.sent) (sym end.sense ∙ side_there p end.is_port on ∙ sent_by.side_is);
        proc = word_proc w wired s next verb port v reply reached step c;
      });
      comes = λ p end.
          let on : chan_at w.sites c p ≡ port = end.on ∙ sym is.chan in (
            word_waits p end.is_port on ∙ sent_by.none,
            word_then p end.is_port on ∙ ap (λ x. waiting (port_is_passive w.ports port) (host_after x v (phase_at s port))) is.verb_is ∙ sent_by.comes ∙ ap Some is.value,
          );
      others = λ p at off. elim (cases_eq (chan_at w.sites c p) port) [
        | inl on ↦ absurd (off (record { is_port = at; on = on ∙ is.chan; sense = side_there p at on ∙ sent_by.side_is }))
        | inr away ↦ word_away p at away
      ];
    }
      where
        is : WordTold verb port v reply m
        is = word_told verb port v reply m shows

        sent_by : WordSends m.sent v (phase_at s port) (port_is_passive w.ports port)
        sent_by = word_send m.sent v (phase_at s port) (port_is_passive w.ports port) (subst (λ x. fits_side x (port_is_passive w.ports port) ≡ true) is.verb_is fits)
            (ap (λ x. reply_to x (phase_at s port)) (sym is.verb_is) ∙ sym step.reply_is ∙ is.done)

  -- an entry that shows nothing
  pub part_silent : (s next : State) (e : Entry) → Reached w s → Follows w s e next → shown_of e ≡ [] → SameOrHears s next
  part_silent s next (Fired who d q j mv v) reached step none = moved_part s next d q j mv v reached step (silent j mv v none)
  part_silent s next (Host who verb port v reply) reached step none = inl (word_same s next verb port v reply reached step none)
  part_silent s next (Rested who) reached (rest, same) none = inl (record { proc = ap (λ t. proc_at t c) same; waits = λ p at. ap (λ t. (part t).waits p) same })

  -- an entry that shows a move
  pub part_shows : (s next : State) (e : Entry) (m : ShortMove) → Reached w s → IsUnbroken next → Follows w s e next → shown_of e ≡ m ∷ [] → Makes w.sites c m (part s) (part next)
  part_shows s next (Fired who d q j mv v) m reached whole step shows = made_part s next d q j mv v reached step m whole shows
  part_shows s next (Host who verb port v reply) m reached whole step shows = word_made s next verb port v reply reached step m shows
  part_shows s next (Rested who) m reached whole by shows = absurd (cc)
