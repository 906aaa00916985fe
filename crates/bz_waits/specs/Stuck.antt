-- Components that can never move again.
use Rattle.std.specs.Prelude.{◌≡◌, ℕ, ◌<◌, ◌≤◌, ⊤, Bool, true, false, List, Contains, length, slice_index_or}
use Rattle.std.specs.List.{All}
use Rattle.std.specs.List.Sorted.{IsStrictlyIncreasing}
use Rattle.bz_model.specs.declared.channel.Move.{Move}
use Rattle.bz_model.specs.declared.event.Entry.{Entry}
use Rattle.bz_model.specs.declared.event.Entry.TheVariants.{Fired, Host, Rested}
use Rattle.bz_model.specs.Nets.{Wiring, State, IsPort, StepsAt, chan_at, proc_at}
use Rattle.bz_net.specs.Due.{HasMove}

-- Component c can make no move. Where it has one due, no host reaches the channel, and every component that does is of the set.
pub record StuckAt (w : Wiring) (s : State) (member : ℕ → Bool) (c : ℕ) : Type 0 where
  pub still : (p : ℕ) → StepsAt w.sites s c p → ⊥
  pub inner : (p : ℕ) (mv : Move) → IsPort w.sites c p → HasMove (proc_at s c) p mv → length w.ports < chan_at w.sites c p
  pub among : (p : ℕ) (mv : Move) → IsPort w.sites c p → HasMove (proc_at s c) p mv
      → (d q : ℕ) → IsPort w.sites d q → chan_at w.sites d q ≡ chan_at w.sites c p → member d ≡ true

-- so it is with each of a set
abbrev pub AreStuck : Wiring → State → (ℕ → Bool) → Type 0
AreStuck w s member = (c : ℕ) → member c ≡ true → StuckAt w s member c

-- every component that is of such a set is of this one
abbrev pub IsGreatest : Wiring → State → (ℕ → Bool) → Type 0
IsGreatest w s member = (other : ℕ → Bool) → AreStuck w s other
    → (c : ℕ) → 0 < c → c ≤ length w.sites → other c ≡ true → member c ≡ true

-- the members are components
abbrev pub AreComps : Wiring → (ℕ → Bool) → Type 0
AreComps w member = (c : ℕ) → member c ≡ true → (0 < c) × (c ≤ length w.sites)

-- an entry is no move of the set
abbrev pub Spares : (ℕ → Bool) → Entry → Type 0
Spares member (Fired who c p k mv value) = member c ≡ true → ⊥
Spares member (Host who verb port value reply) = ⊤
Spares member (Rested who) = ⊤

-- a set as a row: component c is at place c
abbrev pub is_member : List Bool → ℕ → Bool
is_member row c = slice_index_or row c false

-- the numbers of the members, rising
pub record AreNumbers (row : List Bool) (numbers : List ℕ) : Type 0 where
  pub each : All (λ c. is_member row c ≡ true) numbers
  pub whole : (c : ℕ) → 0 < c → is_member row c ≡ true → Contains numbers c
  pub rising : IsStrictlyIncreasing numbers

-- there are n of these
abbrev pub HasCount : List Bool → ℕ → Type 0
HasCount row n = (numbers : List ℕ) × AreNumbers row numbers × (n ≡ length numbers)
