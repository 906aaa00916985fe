-- What is known of the next moves of a component by the move that it just made.
use Rattle.std.specs.Prelude.{◌≡◌, ◌<◌, ◌≤◌, ℕ, Bool, true, length}
use Rattle.bz_model.specs.declared.channel.Move.{Move}
use Rattle.bz_model.specs.Heads.{Component, Head, Proc, IsHeadOn}
use Rattle.bz_kinds.specs.Ready.{CanGo}

-- a process has this move at port p
abbrev pub HasMove : Proc → ℕ → Move → Type 0
HasMove c p mv = (h : Head) × IsHeadOn c p h × (h.move ≡ mv)

-- it can move at one of its ports, whatever is there
abbrev pub IsSure : Component → Type 0
IsSure c = (p : ℕ) × (0 < p) × (p ≤ length c.chans) × ((here : Bool) → CanGo c.proc p here)

-- it can move at p alone, and not before what it waits for is there
abbrev pub WaitsAt : Proc → ℕ → Type 0
WaitsAt c p = (q : ℕ) (here : Bool) → CanGo c q here → (q ≡ p) × (here ≡ true)
