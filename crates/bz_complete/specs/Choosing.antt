-- Components that choose: what comes of them goes by which of two requests they take first. Where no two such requests are open at
-- once, they have no choice.
use Rattle.std.specs.Prelude.{◌≡◌, ◌≢◌, ⊤, ℕ, ◌==◌, ◌&&◌, Bool, true, false, if◌then◌else◌, List, [], ◌∷◌, take}
use Rattle.bz_model.specs.declared.kind.Kind.{Kind}
use Rattle.bz_model.specs.declared.kind.Kind.TheVariants.{FalseVariable, Bar}
use Rattle.bz_model.specs.declared.kind_rules.Callers.{Callers}
use Rattle.bz_model.specs.declared.kind_rules.Callers.TheVariants.{Apart, Written, Meet, OneIsEnough, Arbitrated, Guarded}
use Rattle.bz_model.specs.Rows.{callers_of}
use Rattle.bz_model.specs.Nets.{Wiring, IsPort, chan_at, passive_at, site_at}
use Rattle.bz_complete.specs.declared.short.Sent.{Sent}
use Rattle.bz_complete.specs.declared.short.Sent.TheVariants.{Ask, Reply}
use Rattle.bz_complete.specs.declared.short.ShortMove.{ShortMove}

-- Requests at two passive ports of a component of this kind are rivals: it matters which is taken first. So are a write and a read,
-- and requests at two inputs.
abbrev pub AreRivals : Callers → ℕ → ℕ → Type 0
AreRivals Apart one other = ⊥
AreRivals Written one other = one ≡ 1
AreRivals Meet one other = ⊤
AreRivals OneIsEnough one other = (one ≢ 1) × (other ≢ 1)
AreRivals Arbitrated one other = ⊤
AreRivals Guarded one other = ⊤

abbrev pub Rivals : Kind → ℕ → ℕ → Type 0
Rivals kind one other = AreRivals (callers_of kind) one other

abbrev pub is_request : Sent → Bool
is_request Ask = true
is_request Reply = false

-- whether a request is open on channel k: the last that was sent there is one
abbrev pub open_with : ℕ → Bool → ShortMove → Bool
open_with k before m = if m.chan == k then is_request m.sent else before

abbrev pub open_after : ℕ → Bool → List ShortMove → Bool
open_after k before [] = before
open_after k before (m ∷ ms) = open_after k (open_with k before m) ms

-- behind these moves a request is open at passive port p of component c
pub record IsRequested (w : Wiring) (moves : List ShortMove) (c p : ℕ) : Type 0 where
  pub is_port : IsPort w.sites c p
  pub passive : passive_at w.sites c p ≡ true
  pub is_open : open_after (chan_at w.sites c p) false moves ≡ true

-- the port at which a component first shows that it took a request at port p, if it does so before the reply: a FalseVariable asks
-- at its signal once it took the write
abbrev pub shows_at : Kind → ℕ → ℕ
shows_at FalseVariable p = 2
shows_at kind p = p

-- whether a request on channel k may still wait to be taken: it is open, and behind it nothing was asked on channel j
abbrev pub waits_with : ℕ → ℕ → Bool → ShortMove → Bool
waits_with k j before m = if m.chan == k then is_request m.sent else (if (m.chan == j) && is_request m.sent then false else before)

abbrev pub waits_after : ℕ → ℕ → Bool → List ShortMove → Bool
waits_after k j before [] = before
waits_after k j before (m ∷ ms) = waits_after k j (waits_with k j before m) ms

abbrev pub may_wait : Wiring → ℕ → ℕ → List ShortMove → Bool
may_wait w c p moves = waits_after (chan_at w.sites c p) (chan_at w.sites c (shows_at (site_at w.sites c).kind p)) false moves

-- Behind these moves rival requests are open at component c, of which one may still wait.
pub record Contends (w : Wiring) (moves : List ShortMove) (c : ℕ) : Type 0 where
  pub one : ℕ
  pub other : ℕ
  pub apart : one ≢ other
  pub rivals : Rivals (site_at w.sites c).kind one other
  pub first : IsRequested w moves c one
  pub waits : may_wait w c one moves ≡ true
  pub second : IsRequested w moves c other

-- Component c has no choice while these moves are made: rivals never contend there. Of a Bar that isn't enough: it takes its
-- activation between two inputs that come in.
abbrev pub HasNoChoice : Wiring → List ShortMove → ℕ → Type 0
HasNoChoice w moves c = ((site_at w.sites c).kind ≢ Bar) × ((n : ℕ) → Contends w (take n moves) c → ⊥)
