-- Numbers of one block of 64.
use Rattle.std.specs.Prelude.{◌≡◌, ◌/◌, ◌<◌, ℕ}

-- none behind a number up to the end of its block
abbrev pub NoneAfter : (ℕ → Type 0) → ℕ → Type 0
NoneAfter P last = (c : ℕ) → last < c → c / 64 ≡ last / 64 → P c → ⊥
