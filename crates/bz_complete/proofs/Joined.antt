-- Of two runs that show the same moves: what is noticed in them leads a component to the same, where rival requests are never open
-- there at once.
use Rattle.std.proofs.Common.{◌≡◌, ◌⊎◌, inl, inr, ℕ, zero, suc, ◌+◌, ◌<◌, ◌≤◌, Bool, true, false, Option, Some, None, List, [], ◌∷◌, ◌++◌, length, take, refl, sym, ap, subst, ◌∙◌, append_assoc, arith}
use Rattle.std.proofs.lemmas.List.{flat_map_more}
use Rattle.bz_model.specs.declared.channel.Phase.{Phase}
use Rattle.bz_model.specs.declared.channel.Phase.TheVariants.{Idle, Asked, Taken, Replied, Broken}
use Rattle.bz_model.specs.declared.event.Entry.{Entry}
use Rattle.bz_model.specs.Heads.{Proc}
use Rattle.bz_model.specs.Nets.{State, Wiring, IsPort, chan_at, opening, passive_at, phase_at, proc_at}
use Rattle.bz_model.specs.Runs.{Follows, Run}
use Rattle.bz_model.specs.Terms.{value_of}
use Rattle.bz_flat.specs.Wires.{IsEnd, WellWired}
use Rattle.bz_net.specs.Sides.{answers, sends}
use Rattle.bz_net.proofs.Sides.{sided-head}
use Rattle.bz_net.proofs.Soundness.{Run-push}
use Rattle.bz_run_laws.proofs.Alive.{unbroken}
use Rattle.bz_complete.specs.Choosing.{may_wait, open_after}
use Rattle.bz_complete.specs.Shown.{shown, shown_of}
use Rattle.bz_complete.specs.Stopping.{HasRun, HasSent, IsQuiet, is_busy, replies}
use Rattle.bz_complete.specs.declared.short.ShortMove.{ShortMove}
use Rattle.bz_complete.proofs.Alone.{Clear, Flows, Foreign, Hears, Local, Makes, Meets, Own, Sound, meets_hears, meets_makes, meets_same, meets_self, meets_turned, quiet_sends, sound_hears}
use Rattle.bz_complete.proofs.Noticing.{entry_shows, told}
use Rattle.bz_complete.proofs.Parts.{can_notice, part, part_shows, part_silent, waiting}
use Rattle.bz_complete.proofs.Unshown.{Kept, cut, kept_follows, kept_opening, open_at, reply_busy, same_first, same_rest}

module _ (w : Wiring) (wired : WellWired w) (c : ℕ) (from : 0 < c) (to : c ≤ length w.sites)
    (Good : Proc → Type 0) (Fits : ℕ → Option ℕ → Type 0) (Rival : ℕ → ℕ → Type 0) (flows : Flows Good Fits Rival) (begun : Good (proc_at (opening w) c))
    (fits_at : (s : State) → Kept w wired s → (p : ℕ) (v : Option ℕ) → IsPort w.sites c p → waiting (passive_at w.sites c p) (phase_at s (chan_at w.sites c p)) ≡ Some v → Fits p v)
    (serves : (p q : ℕ) → Rival p q → (passive_at w.sites c p ≡ true) × (passive_at w.sites c q ≡ true)) (moves : List ShortMove)
    (tells : (s : State) (es : List Entry) (p q : ℕ) (v : Option ℕ) → Run w (opening w) es s → IsPort w.sites c p → Rival p q → phase_at s (chan_at w.sites c p) ≡ Asked v → may_wait w c p (shown es) ≡ true)
    (calm : (n p q : ℕ) → IsPort w.sites c p → IsPort w.sites c q → Rival p q → open_after (chan_at w.sites c p) false (take n moves) ≡ true → may_wait w c p (take n moves) ≡ true → open_after (chan_at w.sites c q) false (take n moves) ≡ true → ⊥) where
  one_port : (m : ShortMove) (p q : ℕ) → IsEnd w.sites m.chan (replies m.sent) c p → IsEnd w.sites m.chan (replies m.sent) c q → p ≡ q
  one_port m p q a b = (wired.one_end c p c q a.is_port b.is_port (a.on ∙ sym b.on) (a.sense ∙ sym b.sense)).1

  -- behind a front of the moves, of which these are left
  record Goes (rest : List ShortMove) (s : State) : Type 0 where
    pub kept : Kept w wired s
    pub good : Good (proc_at s c)
    pub entries : List Entry
    pub run : Run w (opening w) entries s
    pub front : shown entries ++ rest ≡ moves

  take_front : (xs ys : List ShortMove) → take (length xs) (xs ++ ys) ≡ xs
  take_front [] ys = refl
  take_front (x ∷ xs) ys = ap (λ zs. x ∷ zs) (take_front xs ys)

  fronts : (rest : List ShortMove) (s : State) → (g : Goes rest s) → take (length (shown g.entries)) moves ≡ shown g.entries
  fronts rest s g = ap (take (length (shown g.entries))) (sym g.front) ∙ take_front (shown g.entries) rest

  -- a request is open as the front says
  open_there : (rest : List ShortMove) (s : State) → (g : Goes rest s) → (p : ℕ) → IsPort w.sites c p → is_busy (phase_at s (chan_at w.sites c p)) ≡ true
      → open_after (chan_at w.sites c p) false (take (length (shown g.entries)) moves) ≡ true
  open_there rest s g p at busy =
      let k = chan_at w.sites c p in
      ap (open_after k false) (fronts rest s g) ∙ sym (open_at w wired s g.entries k (wired.chan_from c p at) g.run) ∙ busy

  -- what waits at a passive port is a request
  requested : (side : Bool) (phase : Phase) (v : Option ℕ) → side ≡ true → waiting side phase ≡ Some v → (x : Option ℕ) × (phase ≡ Asked x)
  requested true Idle v is came = absurd (cc)
  requested true (Asked x) v is came = (x, refl)
  requested true Taken v is came = absurd (cc)
  requested true (Replied x) v is came = absurd (cc)
  requested true Broken v is came = absurd (cc)
  requested false phase v is came = absurd (cc)

  module _ (rest : List ShortMove) (s : State) (g : Goes rest s) (p : ℕ) (v : Option ℕ) (at : IsPort w.sites c p) (side : passive_at w.sites c p ≡ true)
      (is : waiting (passive_at w.sites c p) (phase_at s (chan_at w.sites c p)) ≡ Some v) where
    asked : (x : Option ℕ) × (phase_at s (chan_at w.sites c p) ≡ Asked x)
    asked = requested (passive_at w.sites c p) (phase_at s (chan_at w.sites c p)) v side is

    waits_open : open_after (chan_at w.sites c p) false (take (length (shown g.entries)) moves) ≡ true
    waits_open = open_there rest s g p at (ap is_busy asked.1)

    waits_there : (q : ℕ) → Rival p q → may_wait w c p (take (length (shown g.entries)) moves) ≡ true
    waits_there q rival = ap (may_wait w c p) (fronts rest s g) ∙ tells s g.entries p q asked.0 g.run at rival asked.1

  sound : (rest : List ShortMove) (s : State) → Goes rest s → Sound w.sites c Good Fits Rival flows one_port (part w wired c from s)
  sound rest s g = record {
    good = g.good;
    fits = λ p v at is. fits_at s g.kept p v at is;
    calm = λ p q v u at on rival x y.
        let (one, other) = serves p q rival in
        calm (length (shown g.entries)) p q at on rival (waits_open rest s g p v at one x) (waits_there rest s g p v at one x q rival) (waits_open rest s g q u on other y);
  }

  -- no rival waits of what it sends
  clear : (rest : List ShortMove) (s next : State) (e : Entry) (m : ShortMove) → Goes rest s → Follows w s e next → shown_of e ≡ m ∷ [] → Clear w.sites c Good Fits Rival flows one_port m (part w wired c from s)
  clear rest s next e m g by shows = λ p q v end at rival is.
      let (one, other) = serves q p rival in
      let busy : is_busy (phase_at s m.chan) ≡ true = reply_busy w wired s next e m g.kept by shows (sym end.sense ∙ other) in
      calm (length (shown g.entries)) q p at end.is_port rival (waits_open rest s g q v at one is) (waits_there rest s g q v at one is p rival) (open_there rest s g p end.is_port (ap (λ k. is_busy (phase_at s k)) end.on ∙ busy))

  -- an entry leaves it as good
  shows_at : (s next : State) (e : Entry) (m : ShortMove) → Kept w wired s → Follows w s e next → shown_of e ≡ m ∷ [] → Makes w.sites c m (part w wired c from s) (part w wired c from next)
  shows_at s next e m kept by shows = part_shows w wired c from s next e m kept.reached (unbroken w wired next (kept_follows w wired s next e kept by).alive) by shows

  made_good : (s next : State) (m : ShortMove) → Good (proc_at s c) → Own w.sites c m (part w wired c from s) (part w wired c from next) ⊎ Foreign w.sites c m (part w wired c from s) (part w wired c from next) → Good (proc_at next c)
  made_good s next m good (inl own) =
      let is_sent : sends own.head.move ≡ true = (told m.chan own.head.move (value_of own.head.gives (proc_at s c).store) m own.shows).sent_is in
      subst Good (sym own.leaves) (flows.after (proc_at s c) own.head None good own.on.0 (inr (is_sent, refl)))
  made_good s next m good (inr other) = subst Good (sym other.proc) good

  goes_follows : (s next : State) (e : Entry) (rest : List ShortMove) → Goes (shown_of e ++ rest) s → Follows w s e next → Goes rest next
  goes_follows s next e rest g by = record {
    kept = kept_follows w wired s next e g.kept by;
    good = elim (entry_shows e) [
      | inl silent ↦ elim (part_silent w wired c from s next e g.kept.reached by silent) [
        | inl same ↦ subst Good (sym same.proc) g.good
        | inr (p, hears) ↦ (sound_hears w.sites c Good Fits Rival flows one_port (part w wired c from s) (part w wired c from next) p (sound (shown_of e ++ rest) s g) hears).good
      ]
      | inr (m, is) ↦ made_good s next m g.good (shows_at s next e m g.kept by is).by
    ];
    entries = g.entries ++ e ∷ [];
    run = Run-push w (opening w) g.entries s e next g.run by;
    front = ap (λ xs. xs ++ rest) (sym (flat_map_more shown_of [] g.entries e)) ∙ append_assoc (shown g.entries) (shown_of e) rest ∙ g.front;
  }

  goes_run : (s last : State) (es : List Entry) → Goes (shown es) s → Run w s es last → Goes [] last
  goes_run s last [] g is = subst (Goes []) (sym is) g
  goes_run s last (e ∷ es) g (next, by, run) = goes_run next last es (goes_follows s next e (shown es) g by) run

  goes_opening : (rest : List ShortMove) → rest ≡ moves → Goes rest (opening w)
  goes_opening rest is = record { kept = kept_opening w wired; good = begun; entries = []; run = refl; front = is }

  abbrev Joined : State → State → Type 0
  Joined s r = Meets w.sites c Good Fits Rival flows one_port (part w wired c from s) (part w wired c from r)

  joined_turned : (s r : State) → Joined s r → Joined r s
  joined_turned s r j = meets_turned w.sites c Good Fits Rival flows one_port (part w wired c from s) (part w wired c from r) j

  -- one of two goes on by an entry that shows nothing
  joined_silent : (rest : List ShortMove) (s next r : State) (e : Entry) → Goes rest s → Follows w s e next → shown_of e ≡ [] → Joined s r → Joined next r
  joined_silent rest s next r e g by none j = elim (part_silent w wired c from s next e g.kept.reached by none) [
    | inl same ↦ meets_same w.sites c Good Fits Rival flows one_port (part w wired c from s) (part w wired c from next) (part w wired c from r) same j
    | inr (p, hears) ↦ meets_hears w.sites c Good Fits Rival flows one_port (part w wired c from s) (part w wired c from next) (part w wired c from r) p (sound rest s g) hears j
  ]

  -- both go on by entries that show the same move
  joined_shows : (some rest : List ShortMove) (s next r later : State) (e f : Entry) (m : ShortMove) → Goes some s → Goes rest r → Follows w s e next → Follows w r f later → shown_of e ≡ m ∷ [] → shown_of f ≡ m ∷ [] → Joined s r → Joined next later
  joined_shows some rest s next r later e f m g h by on one other j =
      meets_makes w.sites c Good Fits Rival flows one_port m (part w wired c from s) (part w wired c from r) (part w wired c from next) (part w wired c from later) (sound some s g) (sound rest r h)
      (clear some s next e m g by one) (clear rest r later f m h on other)
      (shows_at s next e m g.kept by one) (shows_at r later f m h.kept on other) j

  -- two runs that show the same moves, of so many entries
  joined_runs : (n : ℕ) (es fs : List Entry) (s r t u : State) → length es + length fs ≤ n → Goes (shown es) s → Goes (shown fs) r → Run w s es t → Run w r fs u → shown es ≡ shown fs → Joined s r → Joined t u
  joined_runs n [] [] s r t u len g h one other same j = subst (λ x. Joined x u) (sym one) (subst (λ x. Joined s x) (sym other) j)
  joined_runs zero [] (f ∷ fs) s r t u len g h one other same j = absurd (omega (arith, len))
  joined_runs zero (e ∷ es) fs s r t u len g h one other same j = absurd (omega (arith, len))
  joined_runs (suc n) [] (f ∷ fs) s r t u len g h one (next, by, run) same j = elim (entry_shows f) [
    | inl silent ↦
        joined_runs n [] fs s next t u (omega (arith, len)) g (goes_follows r next f (shown fs) h by) one run (same ∙ ap (λ xs. xs ++ shown fs) silent)
        (joined_turned next s (joined_silent (shown (f ∷ fs)) r next s f h by silent (joined_turned s r j)))
    | inr (x, is) ↦ absurd (let all = same ∙ ap (λ xs. xs ++ shown fs) is in cc)
  ]
  joined_runs (suc n) (e ∷ es) [] s r t u len g h (next, by, run) other same j = elim (entry_shows e) [
    | inl silent ↦
        joined_runs n es [] next r t u (omega (arith, len)) (goes_follows s next e (shown es) g by) h run other (ap (λ xs. xs ++ shown es) (sym silent) ∙ same)
        (joined_silent (shown (e ∷ es)) s next r e g by silent j)
    | inr (x, is) ↦ absurd (let all = ap (λ xs. xs ++ shown es) (sym is) ∙ same in cc)
  ]
  joined_runs (suc n) (e ∷ es) (f ∷ fs) s r t u len g h (next, by, run) (later, on, more) same j = elim (entry_shows e) [
    | inl silent ↦
        joined_runs n es (f ∷ fs) next r t u (omega (arith, len)) (goes_follows s next e (shown es) g by) h run (later, on, more) (ap (λ xs. xs ++ shown es) (sym silent) ∙ same)
        (joined_silent (shown (e ∷ es)) s next r e g by silent j)
    | inr (x, is) ↦ elim (entry_shows f) [
      | inl silent ↦
          joined_runs n (e ∷ es) fs s later t u (omega (arith, len)) g (goes_follows r later f (shown fs) h on) (next, by, run) more (same ∙ ap (λ xs. xs ++ shown fs) silent)
          (joined_turned later s (joined_silent (shown (f ∷ fs)) r later s f h on silent (joined_turned s r j)))
      | inr (y, are) ↦
          let all : x ∷ shown es ≡ y ∷ shown fs = ap (λ xs. xs ++ shown es) (sym is) ∙ same ∙ ap (λ xs. xs ++ shown fs) are in
          let first : y ≡ x = sym (same_first x y (shown es) (shown fs) all) in
          joined_runs n es fs next later t u (omega (arith, len)) (goes_follows s next e (shown es) g by) (goes_follows r later f (shown fs) h on) run more (same_rest x y (shown es) (shown fs) all)
          (joined_shows (shown (e ∷ es)) (shown (f ∷ fs)) s next r later e f x g h by on is (are ∙ ap (λ z. z ∷ []) first) j)
    ]
  ]

  -- it has nothing to notice
  nothing_heard : (rest : List ShortMove) (s : State) → Goes rest s → IsQuiet w.sites s c → (p : ℕ) (x : Local) → Hears w.sites c (part w wired c from s) p x → ⊥
  nothing_heard rest s g quiet p x h =
      let sided = (g.kept.reached.sided c from to) in
      let sense : answers h.head.move ≡ passive_at w.sites c p = (sided-head (passive_at w.sites c) (proc_at s c).todo h.head h.on.0 sided).0 ∙ ap (passive_at w.sites c) h.on.1 in
      quiet p (record { is_port = h.port; can = (h.head, h.on, can_notice (phase_at s (chan_at w.sites c p)) h.head.move h.value h.is (ap (λ b. waiting b (phase_at s (chan_at w.sites c p))) sense ∙ h.came)) }, h.is)

  pub comp_unshown : (p : ℕ) (m : ShortMove) (es : List Entry) (s : State) → IsEnd w.sites m.chan (replies m.sent) c p → Run w (opening w) es s → shown es ≡ moves → IsQuiet w.sites s c → (HasSent (proc_at s c) p m → ⊥)
      → HasRun w (shown es ++ m ∷ []) → ⊥
  comp_unshown p m es s end run is quiet none has =
      let k = cut w wired (opening w) has.last has.entries (shown es) m has.run has.shows in
      let here = goes_opening (shown es) is in
      let away = goes_opening (shown k.before) (k.shows ∙ is) in
      let there = goes_run (opening w) k.at k.before away k.run in
      let mine = goes_run (opening w) s es here run in
      let joined : Joined s k.at = joined_runs (length es + length k.before) es k.before (opening w) (opening w) s k.at (omega arith) here away run k.run (sym k.shows)
      (meets_self w.sites c Good Fits Rival flows one_port (part w wired c from (opening w))) in
      let made = shows_at k.at k.next k.entry m there.kept k.follows k.tells in
      elim made.by [
        | inl own ↦
            let at : HasSent (proc_at k.at c) p m = (own.head, (own.on.0, own.on.1 ∙ one_port m own.port p own.end end), own.shows) in
            none (quiet_sends w.sites c Good Fits Rival flows one_port m p (part w wired c from s) (part w wired c from k.at) end (sound [] k.at there)
            (clear [] k.at k.next k.entry m there k.follows k.tells) (nothing_heard [] s mine quiet) joined at)
        | inr other ↦ other.none p end
      ]
