-- The states of a component's ports, and the numbers of two bits that they are kept as.
use Rattle.std.specs.Prelude.{◌≡◌, ◌+◌, ◌*◌, ◌<◌, ℕ, zero, suc, Bool, true, false, List, slice_index_or}
use Rattle.bz_bits.specs.declared.word.PortWord.{PortWord}
use Rattle.bz_bits.specs.PortWords.{number_in}
use Rattle.bz_kinds.specs.declared.ports.PortState.{PortState}
use Rattle.bz_kinds.specs.declared.ports.PortState.TheVariants.{Closed, ClosedDue, Open, OpenDue}

-- the state of port p, closed where there is no such port
abbrev pub state_at : List PortState → ℕ → PortState
state_at w p = slice_index_or w p Closed

-- the state that a number stands for: bit 0 tells whether a move is due, bit 1 whether the port is open
abbrev pub state_of : ℕ → PortState
state_of zero = Closed
state_of (suc zero) = ClosedDue
state_of (suc (suc zero)) = Open
state_of (suc (suc (suc a))) = OpenDue

abbrev pub number_of : PortState → ℕ
number_of Closed = 0
number_of ClosedDue = 1
number_of Open = 2
number_of OpenDue = 3

-- whether a move is due at a port in this state
abbrev pub is_due : PortState → Bool
is_due Closed = false
is_due ClosedDue = true
is_due Open = false
is_due OpenDue = true

-- the 64 ports of word k are in the states that this word tells
abbrev pub IsWordOf : List PortState → ℕ → PortWord → Type 0
IsWordOf w k word = (i : ℕ) → i < 64 → state_of (number_in word i) ≡ state_at w (64 * k + i)

-- at no port of word k is a move due
pub record NoneDueIn (w : List PortState) (k : ℕ) : Type 0 where
  pub word : PortWord
  pub each : IsWordOf w k word
  pub none_due : word.due ≡ 0

-- at a port of word k a move is due
pub record SomeDueIn (w : List PortState) (k : ℕ) : Type 0 where
  pub place : ℕ
  pub within : place < 64
  pub due : is_due (state_at w (64 * k + place)) ≡ true
