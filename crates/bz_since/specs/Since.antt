-- The first line of a trace behind which something can never move again.
use Rattle.std.specs.Prelude.{◌≡◌, ℕ, ◌+◌, ◌<◌, ◌≤◌, Bool, true, Option, Some, None, List, length, take, drop}
use Rattle.bz_model.specs.declared.event.Entry.{Entry}
use Rattle.bz_model.specs.Nets.{Wiring, State, opening}
use Rattle.bz_model.specs.Runs.{Run}
use Rattle.bz_waits.specs.Stuck.{AreStuck}
use Rattle.bz_since.specs.declared.since.Since.{Since}

-- a component is of a stuck set
abbrev pub HasStuck : Wiring → State → Type 0
HasStuck w s = (member : ℕ → Bool) × AreStuck w s member × ((c : ℕ) × (0 < c) × (c ≤ length w.sites) × (member c ≡ true))

-- a run of these entries to the last state is in state s behind the first n of them
abbrev pub IsBehind : Wiring → List Entry → State → ℕ → State → Type 0
IsBehind w es last n s = Run w (opening w) (take n es) s × Run w s (drop n es) last

-- Behind n entries of a run, on line n + 1, something is stuck, in the state of this net; behind fewer nothing is.
pub record IsFirst (w : Wiring) (es : List Entry) (last : State) (n : ℕ) (found : Since) : Type 0 where
  pub line_is : found.line ≡ n + 1
  pub within : n ≤ length es
  pub wiring : found.net.wiring ≡ w
  pub state : (s : State) → IsBehind w es last n s → s ≡ found.net.state
  pub stuck : HasStuck w found.net.state
  pub before : (m : ℕ) (s : State) → m < n → IsBehind w es last m s → HasStuck w s → ⊥

-- so it is of the line that is found, and where none is, nothing is stuck behind any
abbrev pub IsSince : Wiring → List Entry → State → Option Since → Type 0
IsSince w es last (Some found) = (n : ℕ) × IsFirst w es last n found
IsSince w es last None = (n : ℕ) (s : State) → n ≤ length es → IsBehind w es last n s → HasStuck w s → ⊥
