-- Two passive ports over the same cells, each of which encloses handshakes that go on at once: the guard encloses pulls of
-- the n inputs into the cells, and replies 1 where a cell holds 1; activate encloses a call of the output of the first cell
-- that holds 1, if one does.
use Rattle.std.specs.Prelude.{◌≡◌, ◌≢◌, ◌⊎◌, ℕ, zero, suc, ◌+◌, ◌<◌, List, length, min, Option, None}
use Rattle.bz_model.specs.declared.expr.Expr.{Expr}
use Rattle.bz_model.specs.declared.expr.Expr.TheVariants.{Nothing, SomeOne}
use Rattle.bz_model.specs.Terms.{Store, Term, Terms, reply, got, seq, par, forever, when, done, leads, all}
use Rattle.bz_model.specs.Heads.{Head, IsHead, tidy}
use Rattle.bz_model.specs.Processes.{after, enclosed, pull, both}
use Rattle.bz_kinds.specs.declared.ports.PortState.{PortState}
use Rattle.bz_kinds.specs.declared.ports.PortState.TheVariants.{Closed, ClosedDue, Open, OpenDue}
use Rattle.bz_kinds.specs.Ports.{state_at}
use Rattle.bz_kinds.specs.Row.{Due, lead_due, leg_due, Toggles}
use Rattle.bz_kinds.specs.Together.{busy, IsLegState}

-- one of the two: its port, the ports that it encloses and the slots for what these bring, the slot for what is taken, the
-- answer, and each enclosed handshake as a round has it
pub record Side : Type 0 where
  pub lead : ℕ
  pub port : ℕ → ℕ
  pub into : ℕ → ℕ
  pub taken : ℕ
  pub answer : Expr
  pub begins : ℕ → Term

module _ (n : ℕ) (side : Side) where
  abbrev pub round : Term
  round = enclosed side.lead side.taken (par (all n side.begins)) side.answer

  -- what is left of handshake i, whose port is in this state
  abbrev pub leg_left : ℕ → PortState → Term
  leg_left i Closed = done
  leg_left i ClosedDue = pull (side.port i) (side.into i)
  leg_left i Open = got (side.port i) (side.into i)
  leg_left i OpenDue = got (side.port i) (side.into i)

  abbrev pub legs_left : List PortState → Terms
  legs_left w = all n (λ i. leg_left i (state_at w (side.port i)))

  -- what is left, where the enclosing port is in this state
  abbrev pub left_at : PortState → List PortState → Term
  left_at Closed w = done
  left_at ClosedDue w = forever round
  left_at Open w = seq (seq (par (legs_left w)) (reply side.lead side.answer)) (forever round)
  left_at OpenDue w = seq (reply side.lead side.answer) (forever round)

  abbrev pub side_left : List PortState → Term
  side_left w = left_at (state_at w side.lead) w

  -- no enclosed handshake goes on, or one does
  abbrev pub IsQuiet : List PortState → Type 0
  IsQuiet w = (i : ℕ) → i < n → state_at w (side.port i) ≡ Closed

  abbrev pub IsBusy : List PortState → Type 0
  IsBusy w = (i : ℕ) × (i < n) × (state_at w (side.port i) ≢ Closed)

  -- the side's ports are in these states
  pub record IsSide (w : List PortState) : Type 0 where
    pub legs : (i : ℕ) → i < n → IsLegState (state_at w (side.port i))
    pub turn : ((state_at w side.lead ≡ ClosedDue) × IsQuiet w) ⊎ ((state_at w side.lead ≡ Open) × IsBusy w) ⊎ ((state_at w side.lead ≡ OpenDue) × IsQuiet w)

-- how many of the first n states are busy
abbrev pub busy_of : ℕ → (ℕ → PortState) → ℕ
busy_of zero f = 0
busy_of (suc n) f = busy (f n) + busy_of n f

module _ (n : ℕ) where
  -- the port of output i
  abbrev pub out : ℕ → ℕ
  out i = after (n + i)

  abbrev pub guard : Side
  guard = record { lead = 1; port = after; into = λ i. i; taken = n; answer = SomeOne; begins = λ i. pull (after i) i }

  abbrev pub activate : Side
  activate = record { lead = 2; port = out; into = λ i. n; taken = n; answer = Nothing; begins = λ i. when (leads i) (pull (out i) n) }

  abbrev pub todo : List PortState → Term
  todo w = both (side_left n guard w) (side_left n activate w)

  -- the move due at port p, whose state is a
  abbrev pub bar_due : ℕ → PortState → Option Due
  bar_due zero a = None
  bar_due (suc zero) a = lead_due n SomeOne a
  bar_due (suc (suc zero)) a = lead_due n Nothing a
  bar_due (suc (suc (suc i))) a = leg_due (record { gives = Nothing; into = min i n }) a

  -- left: how many inputs are still to be pulled
  pub record IsPlace (left : ℕ) (w : List PortState) : Type 0 where
    pub long : length w ≡ after (n + n)
    pub none : state_at w 0 ≡ Closed
    pub some : 0 < n
    pub guards : IsSide n guard w
    pub activates : IsSide n activate w
    pub count : left ≡ busy_of n (λ i. state_at w (after i))
    pub alone : (i j : ℕ) → i < n → j < n → state_at w (out i) ≢ Closed → state_at w (out j) ≢ Closed → i ≡ j

  -- s: the store after the move
  pub record Steps (left : ℕ) (w : List PortState) (p left' : ℕ) (w' : List PortState) (s : Store) : Type 0 where
    pub place : IsPlace left' w'
    pub toggles : Toggles w p w'
    pub leaves : (h : Head) → IsHead (todo w) h → h.port ≡ p → tidy s h.rest ≡ todo w'
