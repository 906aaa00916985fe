-- In a run a request at an end of a channel is one of the component and the port that stand there.
use Rattle.std.proofs.Common.{◌≡◌, ℕ, ◌+◌, ◌-◌, ◌<◌, ◌≤◌, ◌==◌, ◌&&◌, cond, Bool, true, false, Option, List, [], ◌∷◌, length, map, replicate, refl, sym, ap, ap₂, subst, ◌∙◌, arith, inl, inr, length-set}
use Rattle.std.specs.List.{count_by}
use Rattle.std.proofs.lemmas.Bool.{eqb-true, eqb-false, eq-eqb}
use Rattle.std.proofs.lemmas.List.Sums.{sum_by-cons}
use Rattle.std.proofs.Math.ListN.{length-map}
use Rattle.std.proofs.lemmas.List.{get_or-map}
use Rattle.bz_model.specs.declared.channel.Move.{Move}
use Rattle.bz_model.specs.declared.channel.Move.TheVariants.{Ask, Take, Reply, Got}
use Rattle.bz_model.specs.declared.event.Entry.{Entry}
use Rattle.bz_model.specs.declared.event.Entry.TheVariants.{Fired, Host, Rested}
use Rattle.bz_model.specs.Heads.{Proc}
use Rattle.bz_model.specs.Nets.{Wiring, State, IsPort, Step, chan_at, chan_in, moved, no_proc, no_site, opening, passive_at, phase_at, proc_at, site_at, start_at}
use Rattle.bz_model.specs.Phases.{incoming, phase_after}
use Rattle.bz_model.specs.Processes.{process, slots}
use Rattle.bz_model.specs.Rows.{is_passive}
use Rattle.bz_model.specs.Runs.{Follows, Run}
use Rattle.bz_model.specs.Terms.{stored}
use Rattle.bz_flat.specs.Wires.{WellWired}
use Rattle.bz_net.specs.Sides.{Sided, answers}
use Rattle.bz_net.proofs.Sides.{sided-head, sided-tidy, starts}
use Rattle.bz_net.proofs.Ties.{at_other, at_same}
use Rattle.bz_cover.proofs.Tallies.{decided}
use Rattle.bz_cover.specs.Counts.{asks_or_takes, is_request, is_request_at, is_request_of}

-- each process takes and replies at passive ports, asks and gets at active ones
abbrev AreSided : Wiring → State → Type 0
AreSided w s = (length s.procs ≡ length w.sites) × ((c : ℕ) → 0 < c → c ≤ length w.sites → Sided (passive_at w.sites c) (proc_at s c).todo)

agree : (x y : Bool) → (x ≡ true → y ≡ true) → (y ≡ true → x ≡ true) → x ≡ y
agree true true to from = refl
agree true false to from = sym (to refl)
agree false true to from = from refl
agree false false to from = refl

never : (y : Bool) → (y ≡ true → ⊥) → false ≡ y
never true none = absurd (none refl)
never false none = refl

both : (x y : Bool) → (x && y) ≡ true → (x ≡ true) × (y ≡ true)
both true true e = (refl, refl)
both true false e = cc
both false y e = cc

not_true : false ≡ true → ⊥
not_true e = cc

-- a request at an end is one of whoever stands there
one_side : (b : Bool) (mv : Move) (x y : Bool) → (answers mv ≡ b → x ≡ true → y ≡ true) → (y ≡ true → (x ≡ true) × (answers mv ≡ b)) → (is_request b mv && x) ≡ (asks_or_takes mv && y)
one_side false Ask x y to from = agree x y (to refl) (λ so. (from so).0)
one_side true Ask x y to from = never y (λ so. not_true (from so).1)
one_side true Take x y to from = agree x y (to refl) (λ so. (from so).0)
one_side false Take x y to from = never y (λ so. not_true (sym (from so).1))
one_side true Reply x y to from = refl
one_side false Reply x y to from = refl
one_side true Got x y to from = refl
one_side false Got x y to from = refl

sided_opening : (w : Wiring) → AreSided w (opening w)
sided_opening w = (
  length-map w.sites (start_at w.chans),
  λ c from to.
      let site = site_at w.sites c in
      let chans = map (chan_in w.chans) site.chans in
      let here : proc_at (opening w) c ≡ start_at w.chans site = get_or-map (start_at w.chans) w.sites (c - 1) no_site no_proc (omega (arith, from, to)) in
      subst (λ (o : Proc). Sided (passive_at w.sites c) o.todo) (sym here)
      (sided-tidy (is_passive site.kind site.sizes) (replicate (slots site.kind site.sizes) 0) (process site.kind site.sizes chans) (starts site.kind site.sizes chans)),
)

module _ (w : Wiring) (wired : WellWired w) where
  side_of : (s next : State) (c p k : ℕ) (mv : Move) (value : Option ℕ) → AreSided w s → Step w.sites s c p k mv value next → answers mv ≡ passive_at w.sites c p
  side_of s next c p k mv value sided step =
      let head = step.moves.head in
      let at = step.steps_at.is_port in
      let here = sided-head (passive_at w.sites c) (proc_at s c).todo head step.moves.on.0 (sided.1 c at.comp_from at.comp_to) in
      ap answers step.moves.move_is ∙ here.0 ∙ ap (passive_at w.sites c) step.moves.on.1

  stays_sided : (s next : State) (c p k : ℕ) (mv : Move) (value : Option ℕ) → AreSided w s → Step w.sites s c p k mv value next → AreSided w next
  stays_sided s next c p k mv value sided step =
      let head = step.moves.head in
      let at = step.steps_at.is_port in
      let here = sided-head (passive_at w.sites c) (proc_at s c).todo head step.moves.on.0 (sided.1 c at.comp_from at.comp_to) in
      let v = incoming (phase_at s k) head.move in
      let long = sided.0 in
      let after : Sided (passive_at w.sites c) step.rest.todo = subst (λ (o : Proc). Sided (passive_at w.sites c) o.todo) (sym step.moves.leaves) (sided-tidy (passive_at w.sites c) (stored head.into v (proc_at s c).store) head.rest here.1) in
      subst (AreSided w) (sym step.next_is) (
        length-set s.procs (c - 1) step.rest ∙ long,
        λ d from to. elim (decided (d == c)) [
          | inl is ↦
              (let same = eqb-true d c is in
              let there : proc_at (moved s k (phase_after (phase_at s k) mv value) c step.rest) c ≡ step.rest = at_same s.procs c step.rest no_proc at.comp_from (let most = at.comp_to in omega (arith, most, long)) in
              subst (λ e. Sided (passive_at w.sites e) (proc_at (moved s k (phase_after (phase_at s k) mv value) c step.rest) e).todo) (sym same) (subst (λ (o : Proc). Sided (passive_at w.sites c) o.todo) (sym there) after))
          | inr other ↦
              (let there : proc_at (moved s k (phase_after (phase_at s k) mv value) c step.rest) d ≡ proc_at s d = at_other s.procs c d step.rest no_proc at.comp_from from (eqb-false d c other) in
              subst (λ (o : Proc). Sided (passive_at w.sites d) o.todo) (sym there) (sided.1 d from to))
        ],
      )

  follows_sided : (s next : State) (e : Entry) → AreSided w s → Follows w s e next → AreSided w next
  follows_sided s next (Fired who c p k mv value) sided step = stays_sided s next c p k mv value sided step
  follows_sided s next (Host who verb port value reply) sided step = subst (AreSided w) (sym step.next_is) sided
  follows_sided s next (Rested who) sided step = subst (AreSided w) (sym step.1) sided

  module _ (c p : ℕ) (here : IsPort w.sites c p) where
    same_fired : (s next : State) (d q k : ℕ) (mv : Move) (value : Option ℕ) → AreSided w s → Step w.sites s d q k mv value next
        → (is_request (passive_at w.sites c p) mv && (k == chan_at w.sites c p)) ≡ (asks_or_takes mv && ((d == c) && (q == p)))
    same_fired s next d q k mv value sided step =
        let its = side_of s next d q k mv value sided step in
        one_side (passive_at w.sites c p) mv (k == chan_at w.sites c p) ((d == c) && (q == p))
        (λ end on.
        let one = wired.one_end d q c p step.steps_at.is_port here (sym step.chan_is ∙ eqb-true k (chan_at w.sites c p) on) (sym its ∙ end) in
        ap₂ (λ x y. x && y) (eq-eqb d c one.0) (eq-eqb q p one.1))
        (λ so.
        let are = both (d == c) (q == p) so in
        let comp = eqb-true d c are.0 in
        let port = eqb-true q p are.1 in
        (eq-eqb k (chan_at w.sites c p) (step.chan_is ∙ ap₂ (chan_at w.sites) comp port), its ∙ ap₂ (passive_at w.sites) comp port))

    same_entry : (s next : State) (e : Entry) → AreSided w s → Follows w s e next → is_request_at (chan_at w.sites c p) (passive_at w.sites c p) e ≡ is_request_of c p e
    same_entry s next (Fired who d q k mv value) sided step = same_fired s next d q k mv value sided step
    same_entry s next (Host who verb port value reply) sided step = refl
    same_entry s next (Rested who) sided step = refl

    same_run : (s last : State) (es : List Entry) → AreSided w s → Run w s es last → count_by (is_request_at (chan_at w.sites c p) (passive_at w.sites c p)) es ≡ count_by (is_request_of c p) es
    same_run s last [] sided run = refl
    same_run s last (e ∷ es) sided (next, step, run) =
        let first = same_entry s next e sided step in
        let rest = same_run next last es (follows_sided s next e sided step) run in
        sum_by-cons (λ x. cond (is_request_at (chan_at w.sites c p) (passive_at w.sites c p) x) 1 0) e es
        ∙ ap₂ (λ b n. cond b 1 0 + n) first rest
        ∙ sym (sum_by-cons (λ x. cond (is_request_of c p x) 1 0) e es)

pub own_requests : (w : Wiring) (entries : List Entry) (last : State) (c p : ℕ) → WellWired w → Run w (opening w) entries last → IsPort w.sites c p
    → count_by (is_request_at (chan_at w.sites c p) (passive_at w.sites c p)) entries ≡ count_by (is_request_of c p) entries
own_requests w entries last c p wired run here = same_run w wired c p here (opening w) last entries (sided_opening w) run
