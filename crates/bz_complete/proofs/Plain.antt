-- A component that has no choice: where it stops before a move, no run shows that there.
use Rattle.std.proofs.Common.{◌≡◌, ◌⊎◌, inl, inr, ℕ, zero, suc, ◌-◌, ◌<◌, ◌≤◌, Bool, true, false, Option, Some, List, [], ◌∷◌, ◌++◌, length, map, drop, replicate, take, slice_index_or, refl, sym, ap, subst, ◌∙◌, arith}
use Rattle.std.specs.Prelude.{if◌then◌else◌}
use Rattle.bz_model.specs.declared.channel.Chan.{Chan}
use Rattle.bz_model.specs.declared.channel.ChanKind.{ChanKind}
use Rattle.bz_model.specs.declared.channel.ChanKind.TheVariants.{Sync, Push, Pull}
use Rattle.bz_model.specs.declared.channel.Move.TheVariants.{Take, Got}
use Rattle.bz_model.specs.declared.channel.Phase.{Phase}
use Rattle.bz_model.specs.declared.channel.Phase.TheVariants.{Idle, Asked, Taken, Replied, Broken}
use Rattle.bz_model.specs.declared.event.Entry.{Entry}
use Rattle.bz_model.specs.declared.kind.Kind.{Kind}
use Rattle.bz_model.specs.declared.kind.Kind.TheVariants.{FalseVariable}
use Rattle.bz_model.specs.Heads.{Proc}
use Rattle.bz_model.specs.Nets.{Site, State, Wiring, IsPort, chan_at, chan_in, no_proc, no_site, opening, passive_at, phase_at, proc_at, site_at, start_at}
use Rattle.bz_model.specs.Phases.{carries}
use Rattle.bz_model.specs.Processes.{process, slots}
use Rattle.bz_model.specs.Rows.{PortRow, active_port, is_passive, kind_at, port_at, ports_of, row_of}
use Rattle.bz_model.specs.Runs.{Run}
use Rattle.bz_model.specs.Widths.{Holds}
use Rattle.bz_flat.specs.Wires.{IsEnd, WellWired}
use Rattle.bz_net.proofs.Fitting.{own_at}
use Rattle.bz_net.proofs.Soundness.{phase_fits}
use Rattle.bz_complete.specs.Choosing.{HasNoChoice, Rivals, may_wait, open_after, shows_at, waits_after}
use Rattle.bz_complete.specs.Shown.{shown}
use Rattle.bz_complete.specs.Stopping.{HasRun, HasSent, IsQuiet, is_busy, replies}
use Rattle.bz_complete.specs.declared.short.ShortMove.{ShortMove}
use Rattle.bz_complete.proofs.Free.{Fits, IsFree, free_flows, free_tidy}
use Rattle.bz_complete.proofs.FreeKinds.{Rival, brings, free-kind}
use Rattle.bz_complete.proofs.Joined as joined
use Rattle.bz_complete.proofs.Parts.{waiting}
use Rattle.bz_complete.proofs.Sending.{get-map}
use Rattle.bz_complete.proofs.Signals.{waits_open, write_waits}
use Rattle.bz_complete.proofs.Unshown.{Kept, open_at}

kind-in : (chans : List Chan) (rows : List PortRow) → map (λ c. c.kind) chans ≡ map (λ r. r.kind) rows → (i : ℕ) → kind_at chans (suc i) ≡ (slice_index_or rows i (active_port [] Sync)).kind
kind-in [] [] e i = refl
kind-in [] (r ∷ rs) e i = absurd (cc)
kind-in (c ∷ cs) [] e i = absurd (cc)
kind-in (c ∷ cs) (r ∷ rs) e zero = ap (λ ks. slice_index_or ks 0 Sync) e
kind-in (c ∷ cs) (r ∷ rs) e (suc i) = kind-in cs rs (ap (drop 1) e) i

-- a value that waits came where one comes in
comes-in : (kind : ChanKind) (width : ℕ) (passive : Bool) (phase : Phase) (v : Option ℕ) (x : ℕ) → Holds kind width phase → waiting passive phase ≡ Some v → v ≡ Some x → carries kind (if passive then Take else Got) ≡ true
comes-in kind width true (Asked u) v x holds is some = asked kind (subst (Holds kind width) (ap Asked (same u v is ∙ some)) holds)
  where
    same : (u v : Option ℕ) → Some u ≡ Some v → u ≡ v
    same u v e = cc

    asked : (kind : ChanKind) → Holds kind width (Asked (Some x)) → carries kind Take ≡ true
    asked Sync none = absurd none
    asked Push has = refl
    asked Pull none = absurd none
comes-in kind width true Idle v x holds is some = absurd (cc)
comes-in kind width true Taken v x holds is some = absurd (cc)
comes-in kind width true (Replied u) v x holds is some = absurd (cc)
comes-in kind width true Broken v x holds is some = absurd (cc)
comes-in kind width false (Asked u) v x holds is some = absurd (cc)
comes-in kind width false Idle v x holds is some = absurd (cc)
comes-in kind width false Taken v x holds is some = absurd (cc)
comes-in kind width false (Replied u) v x holds is some = replied kind (subst (Holds kind width) (ap Replied (same u v is ∙ some)) holds)
  where
    same : (u v : Option ℕ) → Some u ≡ Some v → u ≡ v
    same u v e = cc

    replied : (kind : ChanKind) → Holds kind width (Replied (Some x)) → carries kind Got ≡ true
    replied Sync none = absurd none
    replied Push none = absurd none
    replied Pull has = refl
comes-in kind width false Broken v x holds is some = absurd (cc)

-- nothing shows sooner than the reply that a request was taken, or it is the write of a FalseVariable
shown_sooner : (kind : Kind) (p q : ℕ) → Rivals kind p q → (shows_at kind p ≡ p) ⊎ ((kind ≡ FalseVariable) × (p ≡ 1))
shown_sooner FalseVariable p q is = inr (refl, is)
shown_sooner kind p q is = inl refl

module _ (w : Wiring) (wired : WellWired w) (c : ℕ) (from : 0 < c) (to : c ≤ length w.sites) (moves : List ShortMove) (none : HasNoChoice w moves c) where
  abbrev site : Site
  site = site_at w.sites c

  abbrev own_chans : List Chan
  own_chans = map (chan_in w.chans) site.chans

  abbrev comes : ℕ → Bool
  comes = brings site.kind site.sizes

  abbrev rival : ℕ → ℕ → Type 0
  rival = Rival site.kind site.sizes

  begun : IsFree comes rival (proc_at (opening w) c).todo
  begun =
      let is : proc_at (opening w) c ≡ start_at w.chans site = get-map (start_at w.chans) w.sites (c - 1) no_site no_proc (omega arith) in
      let free : IsFree comes rival (start_at w.chans site).todo =
      free_tidy comes rival (replicate (slots site.kind site.sizes) 0) (process site.kind site.sizes own_chans) (free-kind site.kind site.sizes own_chans none.0) in
      subst (λ (q : Proc). IsFree comes rival q.todo) (sym is) free

  kind_is : (p : ℕ) → IsPort w.sites c p → (chan_in w.chans (chan_at w.sites c p)).kind ≡ (port_at site.kind site.sizes p).kind
  kind_is zero at = absurd (let up = at.port_from in omega (arith, up))
  kind_is (suc i) at = sym (own_at w c (suc i) (chan_at w.sites c (suc i)) at refl).0 ∙ kind-in own_chans (ports_of (row_of site.kind) site.sizes) (wired.rows c from to).kinds_are i

  sense_is : (p : ℕ) → passive_at w.sites c p ≡ (port_at site.kind site.sizes p).passive
  unfolding is_passive
  sense_is p = refl

  fits_at : (s : State) → Kept w wired s → (p : ℕ) (v : Option ℕ) → IsPort w.sites c p → waiting (passive_at w.sites c p) (phase_at s (chan_at w.sites c p)) ≡ Some v → Fits comes rival p v
  fits_at s kept p v at is x some =
      let k = chan_at w.sites c p in
      sym (λ i. carries (kind_is p at i) (if sense_is p i then Take else Got))
      ∙ comes-in (chan_in w.chans k).kind (chan_in w.chans k).width (passive_at w.sites c p) (phase_at s k) v x (phase_fits w s kept.entries wired kept.run k) is some

  -- rivals stand at passive ports
  serves : (p q : ℕ) → rival p q → (passive_at w.sites c p ≡ true) × (passive_at w.sites c q ≡ true)
  serves p q r = (r.one, r.other)

  -- a request that waits may wait, as the moves say
  tells : (s : State) (es : List Entry) (p q : ℕ) (v : Option ℕ) → Run w (opening w) es s → IsPort w.sites c p → rival p q → phase_at s (chan_at w.sites c p) ≡ Asked v → may_wait w c p (shown es) ≡ true
  tells s es p q v run at r asked =
      let k = chan_at w.sites c p in
      elim (shown_sooner site.kind p q r.rivals) [
        | inl late ↦
            ap (λ n. waits_after k (chan_at w.sites c n) false (shown es)) late ∙ waits_open k false (shown es)
            ∙ sym (open_at w wired s es k (wired.chan_from c p at) run) ∙ ap is_busy asked
        | inr (is, one) ↦
            let first : phase_at s (chan_at w.sites c 1) ≡ Asked v = ap (λ n. phase_at s (chan_at w.sites c n)) (sym one) ∙ asked in
            (λ i. waits_after (chan_at w.sites c (one i)) (chan_at w.sites c (shows_at (is i) p)) false (shown es)) ∙ write_waits w wired c from to is begun s es v run first
      ]

  calm : (n p q : ℕ) → IsPort w.sites c p → IsPort w.sites c q → rival p q → open_after (chan_at w.sites c p) false (take n moves) ≡ true → may_wait w c p (take n moves) ≡ true
      → open_after (chan_at w.sites c q) false (take n moves) ≡ true → ⊥
  calm n p q at on r x waits y = none.1 n (record {
    one = p;
    other = q;
    apart = r.apart;
    rivals = r.rivals;
    first = record { is_port = at; passive = r.one; is_open = x };
    waits = waits;
    second = record { is_port = on; passive = r.other; is_open = y };
  })

  pub comp_unshown : (p : ℕ) (m : ShortMove) (es : List Entry) (s : State) → IsEnd w.sites m.chan (replies m.sent) c p → Run w (opening w) es s → shown es ≡ moves → IsQuiet w.sites s c → (HasSent (proc_at s c) p m → ⊥)
      → HasRun w (shown es ++ m ∷ []) → ⊥
  comp_unshown p m es s end run is quiet cannot has =
      joined.comp_unshown w wired c from to (λ q. IsFree comes rival q.todo) (Fits comes rival) rival (free_flows comes rival) begun fits_at serves moves tells calm p m es s end run is quiet cannot has
