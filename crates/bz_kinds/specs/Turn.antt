-- A move of a component's process, as the code keeps it: when it can be made, and what it leaves.
use Rattle.std.specs.Prelude.{◌≡◌, ◌<◌, ◌^◌, ℕ, Option, Some, ⊤}
use Rattle.bz_model.specs.declared.channel.Move.{Move}
use Rattle.bz_kinds.specs.declared.process.Process.{Process}
use Rattle.bz_kinds.specs.Ports.{state_at}
use Rattle.bz_kinds.specs.Onward.{OneWaits, SomeSure}
use Rattle.bz_kinds.specs.declared.row.Plan.{Plan}
use Rattle.bz_kinds.specs.declared.row.Plan.TheVariants.{InTurn, Together, Cells, OneByOne, Choice, Meeting}
use Rattle.bz_kinds.specs.Row.{Due}
use Rattle.bz_kinds.specs.Riding.{Made}
use Rattle.bz_kinds.specs.Kept.{plan_of}
use Rattle.bz_kinds.specs.KeptLists.{slots_of}
use Rattle.bz_kinds.specs.Sense.{move_by, sense}
use Rattle.bz_kinds.specs.Comp.{IsAt, IsNarrowDue, Goes, plan_due}

-- a move is due at port p of process c
pub record CanTurn (c : Process) (p : ℕ) : Type 0 where
  pub place : IsAt (plan_of c.plan) c.size c.left c.ports (slots_of c.slots)
  pub small : c.size < 2 ^ 30
  pub due : IsNarrowDue (plan_of c.plan) c.size c.left p c.ports

-- and it is this move
abbrev pub IsDueMove : Process → ℕ → Move → Type 0
IsDueMove c p mv = move_by (sense (plan_of c.plan) c.size p) (state_at c.ports p) ≡ Some mv

-- most moves are of other plans
abbrev pub IsRare : Plan → Type 0
IsRare (InTurn row) = ⊥
IsRare (Together row) = ⊥
IsRare Cells = ⊥
IsRare (OneByOne script) = ⊥
IsRare (Choice mix) = ⊥
IsRare (Meeting meet) = ⊥
IsRare plan = ⊤

-- what was due at p was made, and left c': this move, which carries this value
abbrev pub HasMade : Process → ℕ → Option ℕ → Process → Move → Option ℕ → Type 0
HasMade c p rides c' mv value = (d : Due) → plan_due (plan_of c.plan) c.size c.left p (state_at c.ports p) ≡ Some d → Made d rides (slots_of c.slots) (slots_of c'.slots) mv value

-- and the ports of c' are where it takes them
abbrev pub HasGone : Process → ℕ → Process → Type 0
HasGone c p c' = Goes (plan_of c.plan) c.size c.left c.ports p c'.left c'.ports (slots_of c'.slots)

abbrev pub KeepsPlan : Process → Process → Type 0
KeepsPlan c c' = (c'.plan ≡ c.plan) × (c'.size ≡ c.size) × (c'.active ≡ c.active)

-- what a move left due
abbrev pub GoesOn : Process → Type 0
GoesOn c = SomeSure (sense (plan_of c.plan) c.size) c.ports

abbrev pub StaysAt : Process → ℕ → Type 0
StaysAt c p = OneWaits (sense (plan_of c.plan) c.size) c.ports p
