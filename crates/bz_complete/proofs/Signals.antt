-- A FalseVariable takes its write before it asks at its signal: so a write that waits to be taken is one that was asked after the
-- signal last was.
use Rattle.std.proofs.Common.{◌≡◌, ◌≢◌, ◌⊎◌, inl, inr, ℕ, ◌-◌, ◌<◌, ◌≤◌, Bool, true, false, Option, List, [], ◌∷◌, ◌++◌, codes, length, map, replicate, IsTrue, refl, sym, ap, subst, ◌∙◌, arith}
use Rattle.std.specs.Prelude.{◌==◌, ◌&&◌, if◌then◌else◌}
use Rattle.std.proofs.lemmas.Bool.{cases_eq, eq-eqb, ne_eqb}
use Rattle.bz_model.specs.declared.channel.Chan.{Chan}
use Rattle.bz_model.specs.declared.channel.ChanKind.{ChanKind}
use Rattle.bz_model.specs.declared.channel.ChanKind.TheVariants.{Sync, Push, Pull}
use Rattle.bz_model.specs.declared.channel.Move.{Move}
use Rattle.bz_model.specs.declared.channel.Move.TheVariants.{Ask, Take, Reply, Got}
use Rattle.bz_model.specs.declared.channel.Phase.{Phase}
use Rattle.bz_model.specs.declared.channel.Phase.TheVariants.{Idle, Asked, Taken, Replied, Broken}
use Rattle.bz_model.specs.declared.event.Entry.{Entry}
use Rattle.bz_model.specs.declared.event.Entry.TheVariants.{Fired, Host, Rested}
use Rattle.bz_model.specs.declared.event.Reply.{Reply as Answered}
use Rattle.bz_model.specs.declared.event.Verb.{Verb}
use Rattle.bz_model.specs.declared.event.Verb.TheVariants.{Offer, Collect, Accept, Answer, Watch}
use Rattle.bz_model.specs.declared.expr.Expr.TheVariants.{Nothing, Slot}
use Rattle.bz_model.specs.declared.kind.Kind.{Kind}
use Rattle.bz_model.specs.declared.kind.Kind.TheVariants.{FalseVariable}
use Rattle.bz_model.specs.Heads.{Head, IsHead, Proc, after_head, tidy, tidy_all}
use Rattle.bz_model.specs.Hosts.{HostStep, fits_side, host_after, port_is_passive}
use Rattle.bz_model.specs.Nets.{State, Step, Wiring, IsPort, chan_at, chan_in, no_proc, no_site, opening, passive_at, phase_at, proc_at, site_at, start_at}
use Rattle.bz_model.specs.Phases.{allows, incoming, phase_after}
use Rattle.bz_model.specs.Processes.{after, call, enclosed, process, size, slots}
use Rattle.bz_model.specs.Rows.{PortRow, is_passive, passive_array, ports_of, row_of}
use Rattle.bz_model.specs.Runs.{Follows, Run}
use Rattle.bz_model.specs.Terms.{Store, Term, forever, reply, seq, stored, term, all, done}
use Rattle.bz_flat.specs.Wires.{IsEnd, WellWired}
use Rattle.bz_net.specs.Sides.{answers}
use Rattle.bz_net.specs.Unbroken.{IsUnbroken}
use Rattle.bz_net.proofs.Hosts.{side_from}
use Rattle.bz_net.proofs.Sides.{sided-head}
use Rattle.bz_run_laws.proofs.Alive.{alive-follows, unbroken}
use Rattle.bz_complete.specs.Choosing.{is_request, open_after, open_with, waits_after, waits_with}
use Rattle.bz_complete.specs.Shown.{shown, shown_of, shown_word}
use Rattle.bz_complete.specs.Stopping.{is_busy, replies, word_of}
use Rattle.bz_complete.specs.declared.short.Sent.{Sent}
use Rattle.bz_complete.specs.declared.short.Sent.TheVariants as sent
use Rattle.bz_complete.specs.declared.short.ShortMove.{ShortMove}
use Rattle.bz_complete.proofs.DeadEnds.{moved_elsewhere, moved_here, other_proc, word_elsewhere, word_here, word_proc}
use Rattle.bz_complete.proofs.Free.{IsFree, free_after}
use Rattle.bz_complete.proofs.FreeKinds.{Rival, brings}
use Rattle.bz_complete.proofs.HostEnds.{word_told}
use Rattle.bz_complete.proofs.Noticing.{Calm, SameOrCalm, entry_shows, noticed, silent, told, word_calm}
use Rattle.bz_complete.proofs.Rows.{AreRows, HasPort}
use Rattle.bz_complete.proofs.Sending.{Reached, end, get-map, here}
use Rattle.bz_complete.proofs.Serving as serving
use Rattle.bz_complete.proofs.Unshown.{Kept, idle_at, kept_follows, kept_opening, sent_busy}

-- a request that may wait is one that is open, where nothing shows sooner that it was taken
pub waits_open : (k : ℕ) (b : Bool) (ms : List ShortMove) → waits_after k k b ms ≡ open_after k b ms
waits_open k b [] = refl
waits_open k b (m ∷ ms) = ap (λ x. waits_after k k x ms) (one (m.chan == k) (is_request m.sent)) ∙ waits_open k (open_with k b m) ms
  where
    one : (same request : Bool) → (if same then request else (if same && request then false else b)) ≡ (if same then request else b)
    one true request = refl
    one false request = refl

asks_alone : (s : Sent) → is_request s ≡ true → replies s ≡ false
asks_alone sent.Ask is = refl
asks_alone sent.Reply is = absurd (cc)

-- what is behind a request that was taken, at the other end of its channel
other_taken : (phase : Phase) (mv : Move) (v : Option ℕ) → answers mv ≡ false → IsTrue (allows phase mv) → phase_after phase mv v ≢ Broken → phase ≡ Taken → ⊥
other_taken Taken Ask v side a whole is = whole refl
other_taken Taken Take v side a whole is = cc
other_taken Taken Reply v side a whole is = cc
other_taken Taken Got v side a whole is = cc
other_taken Idle mv v side a whole is = cc
other_taken (Asked x) mv v side a whole is = cc
other_taken (Replied x) mv v side a whole is = cc
other_taken Broken mv v side a whole is = cc

word_taken : (verb : Verb) (v : Option ℕ) → fits_side verb true ≡ true → host_after verb v Taken ≡ Taken
word_taken Offer v fits = refl
word_taken Collect v fits = refl
word_taken Accept v fits = absurd (cc)
word_taken Answer v fits = absurd (cc)
word_taken Watch v fits = refl

-- a request that waits can be noticed
not_calm : (v : Option ℕ) → Calm (Asked v) → ⊥
not_calm v calm = calm Take refl refl

still_asked : (old new : Phase) (v : Option ℕ) → SameOrCalm old new → new ≡ Asked v → old ≡ Asked v
still_asked old new v (inl same) is = sym same ∙ is
still_asked old new v (inr calm) is = absurd (not_calm v (subst Calm is calm))

asked_waits : (phase : Phase) (v : Option ℕ) → phase ≡ Asked v → phase ≢ Taken
asked_waits phase v is e = let both : Asked v ≡ Taken = sym is ∙ e in cc

two_ports : (f : ℕ → Chan) (ks : List ℕ) (a b : ChanKind) (rest : List ChanKind) → map (λ c. c.kind) (map f ks) ≡ a ∷ b ∷ rest → 2 ≤ length ks
two_ports f [] a b rest e = absurd (cc)
two_ports f (x ∷ []) a b rest e = absurd (cc)
two_ports f (x ∷ y ∷ ks) a b rest e = omega arith

-- what a FalseVariable does behind the take of a write
abbrev pub body : Term
body = seq (call 2) (reply 1 Nothing)

calls_off : HasPort (call 2) 1 → ⊥
calls_off (inl e) = cc
calls_off (inr e) = cc

write_passive : (sizes : List ℕ) → is_passive FalseVariable sizes 1 ≡ true
unfolding is_passive
write_passive sizes = refl

signal_active : (sizes : List ℕ) → is_passive FalseVariable sizes 2 ≡ false
unfolding is_passive
signal_active sizes = refl

after_take : (phase : Phase) (v : Option ℕ) → phase_after phase Take v ≡ Taken
after_take Idle v = refl
after_take (Asked x) v = refl
after_take Taken v = refl
after_take (Replied x) v = refl
after_take Broken v = refl

serves : (mv : Move) → answers mv ≡ true → (mv ≡ Take) ⊎ (mv ≡ Reply)
serves Ask side = absurd (cc)
serves Take side = inl refl
serves Reply side = inr refl
serves Got side = absurd (cc)

true_or : (b : Bool) → (b ≡ true) ⊎ (b ≡ false)
true_or true = inl refl
true_or false = inr refl

and_false : (b : Bool) → (b && false) ≡ false
and_false true = refl
and_false false = refl

offers : (s : Sent) → is_request s ≡ true → fits_side (word_of s) false ≡ true → ⊥
offers sent.Ask is fits = cc
offers sent.Reply is fits = cc

module _ (w : Wiring) (wired : WellWired w) (c : ℕ) (from : 0 < c) (to : c ≤ length w.sites) (is : (site_at w.sites c).kind ≡ FalseVariable) where
  abbrev sizes : List ℕ
  sizes = (site_at w.sites c).sizes

  abbrev comes : ℕ → Bool
  comes = brings (site_at w.sites c).kind sizes

  abbrev rival : ℕ → ℕ → Type 0
  rival = Rival (site_at w.sites c).kind sizes

  ports : 2 ≤ length (site_at w.sites c).chans
  ports = two_ports (chan_in w.chans) (site_at w.sites c).chans Push Sync (map (λ (r : PortRow). r.kind) (ports_of (passive_array (codes "read") Pull ∷ []) sizes))
      (subst (λ kind. map (λ (x : Chan). x.kind) (map (chan_in w.chans) (site_at w.sites c).chans) ≡ map (λ (r : PortRow). r.kind) (ports_of (row_of kind) sizes)) is (wired.rows c from to).kinds_are)

  -- the write and the signal
  write : IsPort w.sites c 1
  write = let many = ports in record { comp_from = from; comp_to = to; port_from = omega arith; port_to = omega (arith, many) }

  signal : IsPort w.sites c 2
  signal = let many = ports in record { comp_from = from; comp_to = to; port_from = omega arith; port_to = omega (arith, many) }

  write_side : passive_at w.sites c 1 ≡ true
  write_side = ap (λ kind. is_passive kind sizes 1) is ∙ write_passive sizes

  signal_side : passive_at w.sites c 2 ≡ false
  signal_side = ap (λ kind. is_passive kind sizes 2) is ∙ signal_active sizes

  abbrev k : ℕ
  k = chan_at w.sites c 1

  abbrev j : ℕ
  j = chan_at w.sites c 2

  up : 0 < k
  up = wired.chan_from c 1 write

  abbrev First : Term → Type 0
  First t = serving.First comes 0 body ((tt, tt), tt) (calls_off, refl) t

  abbrev AtRest : (t : Term) → First t → Type 0
  AtRest t f = serving.AtRest comes 0 body ((tt, tt), tt) (calls_off, refl) t f

  -- its write is at rest but behind a take
  record Rests (q : Proc) (phase : Phase) : Type 0 where
    pub free : IsFree comes rival q.todo
    pub first : First q.todo
    pub rest : phase ≢ Taken → AtRest q.todo first

  rows : (q : Proc) (phase : Phase) → (r : Rests q phase) → AreRows comes rival r.first.terms
  rows q phase r = subst (IsFree comes rival) r.first.is r.free

  record Tie (s : State) : Type 0 where
    pub kept : Kept w wired s
    pub rests : Rests (proc_at s c) (phase_at s k)

  -- ---- a request that was taken stays so, but for the reply

  stays_move : (s next : State) (d q i : ℕ) (mv : Move) (v : Option ℕ) → Reached w s → IsUnbroken next → Step w.sites s d q i mv v next → ((d ≡ c) × (q ≡ 1) → ⊥) → phase_at s k ≡ Taken → phase_at next k ≡ Taken
  stays_move s next d q i mv v reached whole step off taken = elim (cases_eq k i) [
    | inl e ↦
        let there : IsEnd w.sites i (answers mv) d q = end w wired s next d q i mv v reached step in
        elim (true_or (answers mv)) [
          | inl side ↦ absurd (off (wired.one_end d q c 1 there.is_port write (there.on ∙ sym e) (there.sense ∙ side ∙ sym write_side)))
          | inr side ↦ absurd (other_taken (phase_at s i) mv v side step.moves.allowed (λ broken. whole i (moved_here w wired s next d q i mv v reached step ∙ broken)) (ap (phase_at s) (sym e) ∙ taken))
        ]
    | inr ne ↦ moved_elsewhere w wired s next d q i mv v reached step k up ne ∙ taken
  ]

  stays_word : (s next : State) (verb : Verb) (port : ℕ) (v : Option ℕ) (answer : Answered) → Reached w s → HostStep w s verb port v answer next → phase_at s k ≡ Taken → phase_at next k ≡ Taken
  stays_word s next verb port v answer reached step taken = elim (cases_eq k port) [
    | inl e ↦
        let passive : port_is_passive w.ports port ≡ true = ap (port_is_passive w.ports) (sym e) ∙ sym (wired.host_end c 1 write (subst (λ n. n ≤ length w.ports) (sym e) step.port_to)) ∙ write_side in
        let fits : fits_side verb true ≡ true = subst (λ b. fits_side verb b ≡ true) passive (side_from w verb port v step.agreed) in
        ap (phase_at next) e ∙ word_here w wired s next verb port v answer reached step ∙ ap (host_after verb v) (ap (phase_at s) (sym e) ∙ taken) ∙ word_taken verb v fits
    | inr ne ↦ word_elsewhere w wired s next verb port v answer reached step k up ne ∙ taken
  ]

  -- ---- a step keeps the tie

  rests_other : (q r : Proc) (old new : Phase) → r ≡ q → (old ≡ Taken → new ≡ Taken) → Rests q old → Rests r new
  rests_other q r old new same stays is = subst (λ p. Rests p new) (sym same) (record { free = is.free; first = is.first; rest = λ untaken. is.rest (λ taken. untaken (stays taken)) })

  module _ (s next : State) (q i : ℕ) (mv : Move) (v : Option ℕ) (reached : Reached w s) (whole : IsUnbroken next) (step : Step w.sites s c q i mv v next) (old : Rests (proc_at s c) (phase_at s k)) where
    abbrev head : Head
    head = step.moves.head

    abbrev came : Option ℕ
    came = incoming (phase_at s i) head.move

    abbrev store : Store
    store = stored head.into came (proc_at s c).store

    it : serving.Moved comes 0 body ((tt, tt), tt) (calls_off, refl) store (proc_at s c).todo old.first head
    it = serving.moved comes 0 body ((tt, tt), tt) (calls_off, refl) rival store (proc_at s c).todo old.first head (rows (proc_at s c) (phase_at s k) old) step.moves.on.0

    -- a take at port 1 makes it taken, a reply brings it to rest
    at_write : q ≡ 1 → phase_at next k ≢ Taken → AtRest (after_head (proc_at s c) head came).todo it.then
    at_write e untaken =
        let port : head.port ≡ 1 = step.moves.on.1 ∙ e in
        let side : answers head.move ≡ true = (sided-head (passive_at w.sites c) (proc_at s c).todo head step.moves.on.0 (reached.sided c from to)).0 ∙ ap (passive_at w.sites c) port ∙ write_side in
        let chan : k ≡ i = ap (chan_at w.sites c) (sym e) ∙ sym step.chan_is in
        elim (serves head.move side) [
          | inl takes ↦
              absurd (untaken (ap (phase_at next) chan ∙ moved_here w wired s next c q i mv v reached step ∙ ap (λ m. phase_after (phase_at s i) m v) (step.moves.move_is ∙ takes) ∙ after_take (phase_at s i) v))
          | inr replies ↦ it.replies port replies
        ]

    rests_own : Rests (proc_at next c) (phase_at next k)
    rests_own = subst (λ p. Rests p (phase_at next k)) (sym (here w wired s next c q i mv v reached step ∙ step.moves.leaves)) (record {
      free = free_after comes rival (proc_at s c) head came old.free step.moves.on.0;
      first = it.then;
      rest = λ untaken. elim (cases_eq q 1) [
        | inl e ↦ at_write e untaken
        | inr ne ↦ it.others (λ e. ne (sym step.moves.on.1 ∙ e)) (old.rest (λ taken. untaken (stays_move s next c q i mv v reached whole step (λ (_, e). ne e) taken)))
      ];
    })

  rests_follows : (s next : State) (e : Entry) → Tie s → Follows w s e next → Rests (proc_at next c) (phase_at next k)
  rests_follows s next (Fired who d q i mv v) tie step =
      let whole = unbroken w wired next (alive-follows w wired s (Fired who d q i mv v) next tie.kept.alive step) in
      elim (cases_eq c d) [
        | inl e ↦ rests_own s next q i mv v tie.kept.reached whole (subst (λ o. Step w.sites s o q i mv v next) (sym e) step) tie.rests
        | inr ne ↦
            rests_other (proc_at s c) (proc_at next c) (phase_at s k) (phase_at next k) (other_proc w wired s next d q i mv v tie.kept.reached step c from ne)
            (stays_move s next d q i mv v tie.kept.reached whole step (λ (same, _). ne (sym same))) tie.rests
      ]
  rests_follows s next (Host who verb port v answer) tie step =
      rests_other (proc_at s c) (proc_at next c) (phase_at s k) (phase_at next k) (word_proc w wired s next verb port v answer tie.kept.reached step c)
      (stays_word s next verb port v answer tie.kept.reached step) tie.rests
  rests_follows s next (Rested who) tie (rest, same) = subst (λ t. Rests (proc_at t c) (phase_at t k)) (sym same) tie.rests

  tie_follows : (s next : State) (e : Entry) → Tie s → Follows w s e next → Tie next
  tie_follows s next e tie by = record { kept = kept_follows w wired s next e tie.kept by; rests = rests_follows s next e tie by }

  -- ---- a write that waits

  silent_asked : (s next : State) (e : Entry) (u : Option ℕ) → Tie s → Follows w s e next → shown_of e ≡ [] → phase_at next k ≡ Asked u → phase_at s k ≡ Asked u
  silent_asked s next (Fired who d q i mv v) u tie step none on = elim (cases_eq k i) [
    | inl e ↦
        let calm : Calm (phase_at next k) = subst Calm (sym (ap (phase_at next) e ∙ moved_here w wired s next d q i mv v tie.kept.reached step)) (noticed (phase_at s i) mv v (silent i mv v none)) in
        still_asked (phase_at s k) (phase_at next k) u (inr calm) on
    | inr ne ↦ sym (moved_elsewhere w wired s next d q i mv v tie.kept.reached step k up ne) ∙ on
  ]
  silent_asked s next (Host who verb port v answer) u tie step none on = elim (cases_eq k port) [
    | inl e ↦
        let calm : SameOrCalm (phase_at s port) (phase_at next port) =
        subst (SameOrCalm (phase_at s port)) (sym (word_here w wired s next verb port v answer tie.kept.reached step)) (word_calm verb port v (phase_at s port) (ap (shown_word verb port v) (sym step.reply_is) ∙ none)) in
        ap (phase_at s) e ∙ still_asked (phase_at s port) (phase_at next port) u calm (ap (phase_at next) (sym e) ∙ on)
    | inr ne ↦ sym (word_elsewhere w wired s next verb port v answer tie.kept.reached step k up ne) ∙ on
  ]
  silent_asked s next (Rested who) u tie (rest, same) none on = ap (λ t. phase_at t k) (sym same) ∙ on

  away : (s next : State) (e : Entry) (m : ShortMove) → Tie s → Follows w s e next → shown_of e ≡ m ∷ [] → m.chan ≢ k → phase_at next k ≡ phase_at s k
  away s next (Fired who d q i mv v) m tie step shows ne = moved_elsewhere w wired s next d q i mv v tie.kept.reached step k up (λ e. ne (sym (told i mv v m shows).chan ∙ sym e))
  away s next (Host who verb port v answer) m tie step shows ne = word_elsewhere w wired s next verb port v answer tie.kept.reached step k up (λ e. ne (sym (word_told verb port v answer m shows).chan ∙ sym e))
  away s next (Rested who) m tie by shows ne = absurd (cc)

  -- while it waits, nothing is asked at the signal
  no_signal : (s next : State) (e : Entry) (m : ShortMove) (u : Option ℕ) → Tie s → Follows w s e next → shown_of e ≡ m ∷ [] → m.chan ≡ j → is_request m.sent ≡ true → phase_at s k ≡ Asked u → ⊥
  no_signal s next (Fired who d q i mv v) m u tie step shows chan request asked =
      let tells = told i mv v m shows in
      let there : IsEnd w.sites i (answers mv) d q = end w wired s next d q i mv v tie.kept.reached step in
      let same = wired.one_end d q c 2 there.is_port signal (there.on ∙ tells.chan ∙ chan) (there.sense ∙ tells.side ∙ asks_alone m.sent request ∙ sym signal_side) in
      let head = step.moves.head in
      let port : head.port ≡ 2 = step.moves.on.1 ∙ same.1 in
      let at : IsHead (proc_at s c).todo head = subst (λ o. IsHead (proc_at s o).todo head) same.0 step.moves.on.0 in
      let rest = tie.rests.rest (asked_waits (phase_at s k) u asked) in
      let first : head.port ≡ 1 =
      serving.resting comes 0 body ((tt, tt), tt) (calls_off, refl) rival (proc_at s c).todo tie.rests.first head (rows (proc_at s c) (phase_at s k) tie.rests) rest at
      (subst (HasPort (serving.server comes 0 body ((tt, tt), tt) (calls_off, refl))) (sym port) (inr (inl (inl refl)))) in
      let both : 1 ≡ 2 = sym first ∙ port in
      cc
  no_signal s next (Host who verb port v answer) m u tie step shows chan request asked =
      let tells = word_told verb port v answer m shows in
      let at : port ≡ j = tells.chan ∙ chan in
      let active : port_is_passive w.ports port ≡ false = ap (port_is_passive w.ports) at ∙ sym (wired.host_end c 2 signal (subst (λ n. n ≤ length w.ports) at step.port_to)) ∙ signal_side in
      offers m.sent request (subst (λ b. fits_side (word_of m.sent) b ≡ true) active (subst (λ x. fits_side x (port_is_passive w.ports port) ≡ true) tells.verb_is (side_from w verb port v step.agreed)))
  no_signal s next (Rested who) m u tie by shows chan request asked = cc

  shows_asked : (s next : State) (e : Entry) (m : ShortMove) (b : Bool) (u : Option ℕ) → Tie s → Follows w s e next → shown_of e ≡ m ∷ [] → ((v : Option ℕ) → phase_at s k ≡ Asked v → b ≡ true) → phase_at next k ≡ Asked u
      → waits_with k j b m ≡ true
  shows_asked s next e m b u tie by shows asked on = elim (cases_eq m.chan k) [
    | inl same ↦
        let request : is_request m.sent ≡ true = sym (ap (λ t. if t then is_request m.sent else is_busy (phase_at s k)) (eq-eqb m.chan k same)) ∙ sym (sent_busy w wired s next e m k up tie.kept by shows) ∙ ap is_busy on in
        ap (λ t. if t then is_request m.sent else (if (m.chan == j) && is_request m.sent then false else b)) (eq-eqb m.chan k same) ∙ request
    | inr ne ↦
        let before : phase_at s k ≡ Asked u = sym (away s next e m tie by shows ne) ∙ on in
        let neither : ((m.chan == j) && is_request m.sent) ≡ false = elim (true_or (is_request m.sent)) [
          | inl request ↦ ap (λ t. t && is_request m.sent) (ne_eqb m.chan j (λ chan. no_signal s next e m u tie by shows chan request before))
          | inr answer ↦ ap (λ t. (m.chan == j) && t) answer ∙ and_false (m.chan == j)
        ] in
        ap (λ t. if t then is_request m.sent else (if (m.chan == j) && is_request m.sent then false else b)) (ne_eqb m.chan k ne) ∙ ap (λ t. if t then false else b) neither ∙ asked u before
  ]

  run_waits : (s last : State) (es : List Entry) (b : Bool) (u : Option ℕ) → Tie s → ((v : Option ℕ) → phase_at s k ≡ Asked v → b ≡ true) → Run w s es last → phase_at last k ≡ Asked u → waits_after k j b (shown es) ≡ true
  run_waits s last [] b u tie asked run on = asked u (ap (λ t. phase_at t k) (sym run) ∙ on)
  run_waits s last (e ∷ es) b u tie asked (next, by, run) on = elim (entry_shows e) [
    | inl none ↦
        ap (λ xs. waits_after k j b (xs ++ shown es)) none
        ∙ run_waits next last es b u (tie_follows s next e tie by) (λ v at. asked v (silent_asked s next e v tie by none at)) run on
    | inr (m, shows) ↦
        ap (λ xs. waits_after k j b (xs ++ shown es)) shows
        ∙ run_waits next last es (waits_with k j b m) u (tie_follows s next e tie by) (λ v at. shows_asked s next e m b v tie by shows asked at) run on
  ]

  -- ---- from the opening on

  start_rests : (kind : Kind) (s : Store) (chans : List Chan) → kind ≡ FalseVariable → (f : First (tidy s (process kind sizes chans))) × AtRest (tidy s (process kind sizes chans)) f
  start_rests kind s chans same = subst (λ x. (f : First (tidy s (process x sizes chans))) × AtRest (tidy s (process x sizes chans)) f) (sym same) (
    record {
      terms = tidy_all s (term (serving.server comes 0 body ((tt, tt), tt) (calls_off, refl)) (all (size sizes) (λ i. forever (enclosed (after i) 1 done (Slot 0)))));
      is = refl;
      serves = inl refl;
    },
    refl,
  )

  module _ (begun : IsFree comes rival (proc_at (opening w) c).todo) where
    opening_rests : Rests (proc_at (opening w) c) (phase_at (opening w) k)
    opening_rests =
        let site = site_at w.sites c in
        let started : proc_at (opening w) c ≡ start_at w.chans site = get-map (start_at w.chans) w.sites (c - 1) no_site no_proc (omega arith) in
        let (first, rest) = start_rests site.kind (replicate (slots site.kind site.sizes) 0) (map (chan_in w.chans) site.chans) is in
        subst (λ p. Rests p (phase_at (opening w) k)) (sym started) (record { free = subst (λ (p : Proc). IsFree comes rival p.todo) started begun; first = first; rest = λ _. rest })

    -- a write that waits may wait, by what a run shows
    pub write_waits : (s : State) (es : List Entry) (u : Option ℕ) → Run w (opening w) es s → phase_at s k ≡ Asked u → waits_after k j false (shown es) ≡ true
    write_waits s es u run on = run_waits (opening w) s es false u (record { kept = kept_opening w wired; rests = opening_rests })
        (λ v at. absurd (let both : Idle ≡ Asked v = sym (idle_at (length w.chans) (k - 1)) ∙ at in cc)) run on
