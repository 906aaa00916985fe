-- Numbers from 0 to 3, each as one bit of two words.
use Rattle.std.specs.Prelude.{◌≡◌, ◌≢◌, ◌⊎◌, ◌&&◌, ℕ, ◌+◌, ◌*◌, ◌/◌, ◌%◌, ◌^◌, ◌<◌, ◌≤◌, bit_and, nat_le, nat_lt, if◌then◌else◌, Bool, true, false, List, map, length, slice_index, slice_index_or}
use Rattle.std.specs.List.{range_with_len}
use Rattle.std.specs.Int.{bit_at}
use Rattle.bz_bits.specs.declared.word.PortWord.{PortWord}

abbrev pub no_ports : PortWord
no_ports = record { due = 0; opened = 0 }

-- the number at a place of a word
abbrev pub number_in : PortWord → ℕ → ℕ
number_in w i = bit_at w.due i + 2 * bit_at w.opened i

-- the number at a place of a list of words
abbrev pub number_at : List PortWord → ℕ → ℕ
number_at words p = number_in (slice_index_or words (p / 64) no_ports) (p % 64)

-- the first n numbers
unfoldable pub numbers : List PortWord → ℕ → List ℕ
numbers words n = map (number_at words) (range_with_len 0 n)

-- the words hold n numbers, and 0 past them
pub record AreNumbers (words : List PortWord) (n : ℕ) : Type 0 where
  pub room : n ≤ 64 * length words
  pub small : n < 2 ^ 64
  pub clear : (p : ℕ) → n ≤ p → number_at words p ≡ 0

-- the first n of these words have no odd number
abbrev pub NoneOdd : List PortWord → ℕ → Type 0
NoneOdd words n = (k : ℕ) → k < n → (slice_index_or words k no_ports).due ≡ 0

-- word n of these is the first with an odd number, or there is none and n is past them all
pub record IsLowest (words : List PortWord) (n : ℕ) : Type 0 where
  pub few : length words < 2 ^ 16
  pub even : NoneOdd words n
  pub stops : n < length words → (slice_index_or words n no_ports).due ≢ 0
  pub fits : (slice_index_or words n no_ports).due < 2 ^ 64

-- no port of a word has the number 1
abbrev pub LacksOne : PortWord → Type 0
LacksOne w = bit_and w.due w.opened ≡ w.due

-- no port of the first n of these words has
abbrev pub NoneOne : List PortWord → ℕ → Type 0
NoneOne words n = (k : ℕ) → k < n → LacksOne (slice_index_or words k no_ports)

-- word k of these numbers, of which none is odd
pub record IsEven (numbers : List ℕ) (k : ℕ) : Type 0 where
  pub word : PortWord
  pub each : (i : ℕ) → i < 64 → number_in word i ≡ slice_index numbers (64 * k + i)
  pub none_due : word.due ≡ 0

-- a port of word k of these numbers has an odd one
pub record HasOdd (numbers : List ℕ) (k : ℕ) : Type 0 where
  pub place : ℕ
  pub within : place < 64
  pub odd : (slice_index numbers (64 * k + place) ≡ 1) ⊎ (slice_index numbers (64 * k + place) ≡ 3)

-- whether p stands at `from` or after it, and before `to`
abbrev pub between : ℕ → ℕ → ℕ → Bool
between from to p = nat_le from p && nat_lt p to

-- of words a to before b, the places from `from` to before `to` have number s now, and all others what they had
abbrev pub FilledIn : List PortWord → List PortWord → (from to s a b : ℕ) → Type 0
FilledIn old new from to s a b = (p : ℕ) → number_at new p ≡ (if between from to p && between a b (p / 64) then s else number_at old p)

-- whether the move that is due at a port can be made: by whether one is due, the port is open, it is passive, and what
-- it may wait for is here. A closed passive port waits for a request, an open active one for a reply.
abbrev pub goes : Bool → Bool → Bool → Bool → Bool
goes false opened passive here = false
goes true opened passive true = true
goes true true true false = true
goes true true false false = false
goes true false true false = false
goes true false false false = true
