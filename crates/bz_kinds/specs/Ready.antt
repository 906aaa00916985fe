-- The ports of one word at which a component can move, as a bit for each.
use Rattle.std.specs.Prelude.{◌≡◌, ◌==◌, ◌+◌, ◌*◌, ◌<◌, ◌↔◌, ℕ, Bool, true, false, not, Option, Some, None, IsTrue}
use Rattle.std.specs.Int.{bit_at}
use Rattle.bz_model.specs.declared.channel.Move.{Move}
use Rattle.bz_model.specs.declared.channel.Move.TheVariants.{Ask, Take, Reply, Got}
use Rattle.bz_model.specs.Heads.{Head, Proc, IsHeadOn}
use Rattle.bz_kinds.specs.declared.row.Plan.{Plan}
use Rattle.bz_kinds.specs.Sense.{sense}

-- whether a port is passive; false where there is no such port
abbrev pub is_told : Option Bool → Bool
is_told None = false
is_told (Some passive) = passive

-- a bit for each of 64 ports of a plan: whether the port is passive
abbrev pub IsSensed : Plan → ℕ → ℕ → ℕ → Type 0
IsSensed plan n at word = (i : ℕ) → i < 64 → (bit_at word i == 1) ≡ is_told (sense plan n (64 * at + i))

-- the same the other way round: whether it isn't passive
abbrev pub IsActive : Plan → ℕ → ℕ → ℕ → Type 0
IsActive plan n at word = (i : ℕ) → i < 64 → (bit_at word i == 1) ≡ not (is_told (sense plan n (64 * at + i)))

-- whether a move can be made, by whether what it may wait for is here: a take waits for a request, a got for a reply
abbrev pub is_free : Move → Bool → Bool
is_free Ask here = true
is_free Reply here = true
is_free Take here = here
is_free Got here = here

-- a process can move at port p, by whether what is waited for there is here
abbrev pub CanGo : Proc → ℕ → Bool → Type 0
CanGo c p here = (h : Head) × IsHeadOn c p h × IsTrue (is_free h.move here)

-- bit i tells of port 64 * at + i whether a process can move there, and bit i of `here` whether what is waited for is here
abbrev pub AreReady : Proc → ℕ → ℕ → ℕ → Type 0
AreReady c at here word = (i : ℕ) → i < 64 → IsTrue (bit_at word i == 1) ↔ CanGo c (64 * at + i) (bit_at here i == 1)

-- at no port of word k is a move due, so the process can't move there, whatever is here
abbrev pub NoneDue : Proc → ℕ → Type 0
NoneDue c k = (here : ℕ) → AreReady c k here 0
