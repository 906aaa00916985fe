-- What is due after a move: something that waits for nothing, or one move alone, which waits.
use Rattle.std.specs.Prelude.{◌≡◌, ◌≢◌, ℕ, Bool, true, false, Option, Some, None, List}
use Rattle.bz_kinds.specs.declared.ports.PortState.{PortState}
use Rattle.bz_kinds.specs.declared.ports.PortState.TheVariants.{Closed, ClosedDue, Open, OpenDue}
use Rattle.bz_kinds.specs.Ports.{is_due, state_at}

-- whether the move due at a port of this sense, in this state, waits for nothing
abbrev pub is_sure : Option Bool → PortState → Bool
is_sure None a = false
is_sure (Some passive) Closed = false
is_sure (Some true) ClosedDue = false
is_sure (Some false) ClosedDue = true
is_sure (Some passive) Open = false
is_sure (Some true) OpenDue = true
is_sure (Some false) OpenDue = false

-- with ports of these senses: at one of them a move is due that waits for nothing
abbrev pub SomeSure : (ℕ → Option Bool) → List PortState → Type 0
SomeSure senses w = (q : ℕ) × (is_sure (senses q) (state_at w q) ≡ true)

-- or a move is due at p alone, and waits
pub record OneWaits (senses : ℕ → Option Bool) (w : List PortState) (p : ℕ) : Type 0 where
  pub waits : is_sure (senses p) (state_at w p) ≡ false
  pub alone : (q : ℕ) → q ≢ p → is_due (state_at w q) ≡ false
