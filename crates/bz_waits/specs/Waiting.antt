-- Who waits for whom in a state of a net: components that can't move, and what has to come first.
use Rattle.std.specs.Prelude.{◌≡◌, ◌⊎◌, ℕ, ◌<◌, ⊤, Bool, true, not, List, Contains}
use Rattle.std.specs.List.{All}
use Rattle.bz_model.specs.declared.channel.Move.{Move}
use Rattle.bz_model.specs.declared.channel.Move.TheVariants.{Ask, Take, Reply, Got}
use Rattle.bz_model.specs.declared.channel.Phase.{Phase}
use Rattle.bz_model.specs.declared.channel.Phase.TheVariants.{Asked, Taken}
use Rattle.bz_model.specs.declared.kind_rules.Callers.TheVariants.{OneIsEnough}
use Rattle.bz_model.specs.Rows.{callers_of}
use Rattle.bz_model.specs.Nets.{Site, State, IsPort, site_at, chan_at, passive_at, proc_at, phase_at}
use Rattle.bz_model.specs.Runs.{CanStep}
use Rattle.bz_flat.specs.Wires.{IsEnd, HasEnd}
use Rattle.bz_net.specs.Due.{HasMove}
use Rattle.bz_waits.specs.declared.wait.Wait.{Wait}
use Rattle.bz_waits.specs.declared.wait.Whom.{Whom}
use Rattle.bz_waits.specs.declared.wait.Whom.TheVariants.{Nobody, Host, Idle, Busy}
use Rattle.bz_waits.specs.declared.wait.Place.{Place}
use Rattle.bz_waits.specs.declared.wait.Place.TheVariants.{Each, First, Other}

-- component c can't move
abbrev pub IsStuck : List Site → State → ℕ → Type 0
IsStuck sites s c = CanStep sites s c → ⊥

-- this move comes next at port p of component c, whether or not the channel lets it be made
abbrev pub IsDue : List Site → State → ℕ → Move → ℕ → Type 0
IsDue sites s c mv p = IsPort sites c p × HasMove (proc_at s c) p mv

-- at two of its ports
abbrev pub IsDueTwice : List Site → State → ℕ → Move → Type 0
IsDueTwice sites s c mv = (p q : ℕ) × (p < q) × IsDue sites s c mv p × IsDue sites s c mv q

-- it waits for no reply
abbrev pub GetsNone : List Site → State → ℕ → Type 0
GetsNone sites s c = (p : ℕ) → IsDue sites s c Got p → ⊥

-- component c has taken the request on channel k, and has not replied to it
abbrev pub Owes : List Site → State → ℕ → ℕ → Type 0
Owes sites s c k = ((p : ℕ) × IsEnd sites k true c p) × (phase_at s k ≡ Taken)

-- it can't move, waits for no reply and owes none
pub record IsIdle (sites : List Site) (s : State) (c : ℕ) : Type 0 where
  pub stuck : IsStuck sites s c
  pub gets : GetsNone sites s c
  pub owes : (k : ℕ) → Owes sites s c k → ⊥

-- What component c waits for where this move is due: for a reply, and where it owes a reply itself for a request.
abbrev pub IsAwaited : List Site → State → ℕ → Move → Type 0
IsAwaited sites s c Got = ⊤
IsAwaited sites s c Take = (k : ℕ) × Owes sites s c k
IsAwaited sites s c Ask = ⊥
IsAwaited sites s c Reply = ⊥

-- the move that has to come first on the channel
abbrev pub first_move : Move → Phase → Move
first_move Got (Asked v) = Take
first_move Got phase = Reply
first_move due phase = Ask

-- the component at an end of channel k, 0 where none stands there
abbrev pub IsAtEnd : List Site → ℕ → Bool → ℕ → Type 0
IsAtEnd sites k side other = ((other ≡ 0) × (HasEnd sites k side → ⊥)) ⊎ ((p : ℕ) × IsEnd sites k side other p)

-- whom this is
abbrev pub IsWhom : List Site → State → ℕ → Whom → Type 0
IsWhom sites s other Nobody = ⊥
IsWhom sites s other Host = other ≡ 0
IsWhom sites s other Idle = IsIdle sites s other
IsWhom sites s other Busy = (0 < other) × (IsIdle sites s other → ⊥)

-- one of the requests that component c waits for is enough: a DecisionWait that waits for several
abbrev pub Chooses : List Site → State → ℕ → Move → Type 0
Chooses sites s c due = (due ≡ Take) × (callers_of (site_at sites c).kind ≡ OneIsEnough) × IsDueTwice sites s c Take

-- how this goes with what else the component waits for
abbrev pub IsPlace : List Site → State → ℕ → Move → Place → Type 0
IsPlace sites s c due Each = Chooses sites s c due → ⊥
IsPlace sites s c due First = Chooses sites s c due
IsPlace sites s c due Other = Chooses sites s c due

-- it has to come in any case, and from a component that is not idle
abbrev pub IsLink : Wait → Type 0
IsLink w = (w.whom ≡ Busy) × (w.place ≡ Each)

-- a component waits at a port for the other end of its channel
pub record WaitsAtPort (sites : List Site) (s : State) (w : Wait) : Type 0 where
  pub port : ℕ
  pub due : Move
  pub is_due : IsDue sites s w.comp due port
  pub awaited : IsAwaited sites s w.comp due
  pub chan : w.chan ≡ chan_at sites w.comp port
  pub other : IsAtEnd sites w.chan (not (passive_at sites w.comp port)) w.other
  pub whom : IsWhom sites s w.other w.whom
  pub first : w.mv ≡ first_move due (phase_at s w.chan)
  pub place : IsPlace sites s w.comp due w.place

-- a component has halted: no move is due at any of its ports for which it could wait, and it owes a reply
pub record HasHalted (sites : List Site) (s : State) (w : Wait) : Type 0 where
  pub gets : GetsNone sites s w.comp
  pub takes : (p : ℕ) → IsDue sites s w.comp Take p → ⊥
  pub owes : Owes sites s w.comp w.chan
  pub other : w.other ≡ 0
  pub whom : w.whom ≡ Nobody
  pub first : w.mv ≡ Reply
  pub place : w.place ≡ Each

pub record IsWait (sites : List Site) (s : State) (w : Wait) : Type 0 where
  pub stuck : IsStuck sites s w.comp
  pub waits : WaitsAtPort sites s w ⊎ HasHalted sites s w

-- a wait of component c on channel k is among these
abbrev pub WaitsOn : List Wait → ℕ → ℕ → Type 0
WaitsOn waits c k = (w : Wait) × Contains waits w × (w.comp ≡ c) × (w.chan ≡ k)

abbrev pub HasWait : List Wait → ℕ → Type 0
HasWait waits c = (k : ℕ) × WaitsOn waits c k

-- Each of these is a wait. Of a component that can't move there is one for each reply that it waits for. Where it owes a reply
-- itself there is one at least, and where it waits for no reply then, one for each request that it waits for.
pub record AreWaits (sites : List Site) (s : State) (waits : List Wait) : Type 0 where
  pub each : All (IsWait sites s) waits
  pub gets : (c p : ℕ) → IsStuck sites s c → IsDue sites s c Got p → WaitsOn waits c (chan_at sites c p)
  pub owes : (c k : ℕ) → IsStuck sites s c → Owes sites s c k → HasWait waits c
  pub takes : (c p k : ℕ) → IsStuck sites s c → GetsNone sites s c → Owes sites s c k → IsDue sites s c Take p
      → WaitsOn waits c (chan_at sites c p)

-- the same of some of the components
pub record AreWaitsOf (sites : List Site) (s : State) (comps : List ℕ) (waits : List Wait) : Type 0 where
  pub each : All (IsWait sites s) waits
  pub gets : (c p : ℕ) → Contains comps c → IsStuck sites s c → IsDue sites s c Got p → WaitsOn waits c (chan_at sites c p)
  pub owes : (c k : ℕ) → Contains comps c → IsStuck sites s c → Owes sites s c k → HasWait waits c
  pub takes : (c p k : ℕ) → Contains comps c → IsStuck sites s c → GetsNone sites s c → Owes sites s c k → IsDue sites s c Take p
      → WaitsOn waits c (chan_at sites c p)
