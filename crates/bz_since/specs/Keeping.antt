-- The state of a net behind a line of a trace, and the entries of a trace, kept while the trace is checked.
use Rattle.std.specs.Prelude.{◌≡◌, ℕ, ◌-◌, ◌<◌, ◌≤◌, List, length, take, Option, Some, None, IfSome, ◌⊎◌, map, ⊤}
use Rattle.std.specs.List.{AllByRecursion}
use Rattle.std.specs.declared.alloc.Global.{Global}
use Rattle.std.specs.declared.vec.Vec.{Vec}
use Rattle.bz_model.specs.declared.event.Entry.TheVariants.{Fired}
use Rattle.bz_model.specs.Entries.{told}
use Rattle.bz_model.specs.Nets.{Site}
use Rattle.bz_flat.specs.Wires.{IsEnd}
use Rattle.bz_net.specs.Sides.{answers}
use Rattle.bz_model.specs.declared.event.Entry.{Entry}
use Rattle.bz_model.specs.Nets.{Wiring}
use Rattle.bz_net.specs.Core.{Standing}
use Rattle.bz_trace.specs.Verdicts.{IsRunText}
use Rattle.bz_since.specs.Halving.{EndsIn}
use Rattle.bz_since.specs.Since.{IsBehind}
use Rattle.bz_since.specs.declared.at_line.AtLine.{AtLine}

-- how many entries stand before this line, counted from 1; more than any trace has where none is named
abbrev pub before : Option ℕ → ℕ
before (Some line) = line - 1
before None = 18446744073709551615

-- Behind these entries of a run: so many are still to come; and once none is, the net is kept as it was behind those that were wanted,
-- unless memory was refused for it.
pub record KeepsLine (w : Wiring) (entries : List Entry) (now : AtLine) : Type 0 where
  pub left : now.left ≡ now.after - length entries
  pub kept : now.after ≤ length entries → IfSome now.core (λ core. (core.wiring ≡ w) × EndsIn w (take now.after entries) core.state)

-- it was kept, or the entries end before
abbrev pub HasKept : AtLine → Option Standing → Type 0
HasKept now None = 0 < now.left
HasKept now (Some core) = (now.left ≡ 0) × (now.core ≡ Some core)

-- this net stands where each run stands behind a line whose trace the text is
pub record IsKept (w : Wiring) (trace : List ℕ) (line : ℕ) (kept : Standing) : Type 0 where
  pub wiring : kept.wiring ≡ w
  pub behind : (run : IsRunText w trace) → IsBehind w run.entries run.last (line - 1) kept.state

-- the component of a firing holds the end of the channel that its move is made at by this port, or by none
abbrev pub IsAtPort : List Site → Entry → Type 0
IsAtPort sites (Fired who c p k mv value) = ((q : ℕ) → IsEnd sites k (answers mv) c q → ⊥) ⊎ IsEnd sites k (answers mv) c p
IsAtPort sites entry = ⊤

-- These entries are told so, and each firing is at its port; or memory was refused for them.
abbrev pub AreGathered : Wiring → List Entry → Option (Vec Entry Global) → Type 0
AreGathered w entries now = IfSome now (λ journal. (map told journal.items ≡ map told entries) × AllByRecursion (IsAtPort w.sites) journal.items)
