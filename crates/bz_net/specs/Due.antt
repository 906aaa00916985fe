-- What is due at a port: the move that comes next there, whether or not its channel lets it be made; and the steps that can be
-- made.
use Rattle.std.specs.Prelude.{◌≡◌, ℕ, Option, Some, None, List, MatchOption, is_some}
use Rattle.bz_model.specs.declared.channel.Move.{Move}
use Rattle.bz_model.specs.declared.channel.Move.TheVariants.{Ask, Take, Reply, Got}
use Rattle.bz_model.specs.declared.channel.Phase.{Phase}
use Rattle.bz_model.specs.declared.channel.Phase.TheVariants.{Idle, Asked, Taken, Replied, Broken}
use Rattle.bz_model.specs.Nets.{Site, State, IsPort, Step, StepsAt, proc_at}
pub use Rattle.bz_kinds.specs.Sure.{HasMove}

-- the move that component c has at port p, or none where it has none there or there is no such port
abbrev pub TellsDue : List Site → State → ℕ → ℕ → Option Move → Type 0
TellsDue sites s c p due = MatchOption due
    ((mv : Move) → IsPort sites c p → HasMove (proc_at s c) p mv → ⊥)
    (λ mv. IsPort sites c p × HasMove (proc_at s c) p mv)

-- and it has no other there
abbrev pub IsSoleDue : List Site → State → ℕ → ℕ → Option Move → Type 0
IsSoleDue sites s c p due = (mv : Move) → IsPort sites c p → HasMove (proc_at s c) p mv → due ≡ Some mv

-- the channel, the move and the value of a step of component c at port p, or none where it has none
abbrev pub Foresees : List Site → State → ℕ → ℕ → Option (ℕ × Move × Option ℕ) → Type 0
Foresees sites s c p seen = MatchOption seen (StepsAt sites s c p → ⊥) (λ m. (next : State) × Step sites s c p m.0 m.1 m.2 next)

-- component c has a step at port p, by this move on channel k, with this value
abbrev pub HasStep : List Site → State → ℕ → ℕ → ℕ → Move → Option ℕ → Type 0
HasStep sites s c p k mv value = (next : State) × Step sites s c p k mv value next

-- a value is given exactly where a step of component c by this move on channel k carries one
abbrev pub GivesAsSteps : List Site → State → ℕ → ℕ → Move → Option ℕ → Type 0
GivesAsSteps sites s c k mv value = (p : ℕ) (other : Option ℕ) (next : State) → Step sites s c p k mv other next → is_some other ≡ is_some value

-- each step of component c by this move on channel k leads to this state
abbrev pub LeadsOnlyTo : List Site → State → ℕ → ℕ → Move → State → Type 0
LeadsOnlyTo sites s c k mv last = (p : ℕ) (value : Option ℕ) (next : State) → Step sites s c p k mv value next → next ≡ last

-- the move that comes next on a channel in a phase
abbrev pub next_of : Phase → Option Move
next_of Idle = Some Ask
next_of (Asked v) = Some Take
next_of Taken = Some Reply
next_of (Replied v) = Some Got
next_of Broken = None
