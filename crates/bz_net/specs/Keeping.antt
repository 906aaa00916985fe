-- What every net keeps: its wiring, the tie of phases and components, the marks of those that can move, and the run that
-- its journal tells.
use Rattle.std.specs.Prelude.{◌≡◌, ◌≢◌, ℕ, suc, ◌-◌, ◌<◌, ◌≤◌, ◌^◌, Bool, true, false, Option, Some, List, [], length, map, slice_set, slice_index_or, Contains, ◌↔◌}
use Rattle.bz_model.specs.declared.channel.Phase.{Phase}
use Rattle.bz_model.specs.declared.channel.Phase.TheVariants.{Idle, Taken, Broken}
use Rattle.bz_model.specs.declared.channel.Chan.{Chan}
use Rattle.bz_model.specs.declared.event.Entry.{Entry}
use Rattle.bz_model.specs.declared.event.Verb.{Verb}
use Rattle.bz_model.specs.declared.event.Reply.{Reply}
use Rattle.bz_flat.specs.declared.flat.Ends.{Ends}
use Rattle.bz_model.specs.Heads.{Proc, Component, open_at}
use Rattle.bz_net.specs.Sides.{Sided}
use Rattle.bz_model.specs.Nets.{Site, Wiring, State, IsPort, no_proc, site_at, chan_at, chan_in, passive_at, opening}
use Rattle.bz_model.specs.Hosts.{reply_to, host_after}
use Rattle.bz_model.specs.Runs.{CanStep, Run}
use Rattle.bz_model.specs.Rows.{MeetsRow}
use Rattle.bz_model.specs.Processes.{start_of}
use Rattle.bz_flat.specs.Wires.{WellWired, at_side, ends_in}
use Rattle.bz_model.specs.Clashes.{ClashesIn}
use Rattle.bz_net.specs.Noted.{Notes, Watches}
use Rattle.bz_net.specs.Unbroken.{UnbrokenRun}

abbrev pub proc_of : Component → Proc
proc_of c = c.proc

-- of components, a state speaks of the processes alone
abbrev pub state_of : List Phase → List Component → State
state_of phases comps = record { phases = phases; procs = map proc_of comps }

abbrev pub no_comp : Component
no_comp = record { proc = no_proc; chans = []; open_ports = [] }

abbrev pub comp_at : List Component → ℕ → Component
comp_at comps c = slice_index_or comps (c - 1) no_comp

abbrev pub phase_in : List Phase → ℕ → Phase
phase_in phases k = slice_index_or phases (k - 1) Idle

-- whether the passive end of a channel, or its active end, is open in this phase
abbrev pub is_open : Phase → Bool → Bool
is_open Taken true = true
is_open phase true = false
is_open Idle false = false
is_open phase false = true

-- each phase is tied to the components at both ends
pub record Tied (w : Wiring) (phases : List Phase) (comps : List Component) : Type 0 where
  pub phases_len : length phases ≡ length w.chans
  pub comps_len : length comps ≡ length w.sites
  pub sides : (c : ℕ) → 0 < c → c ≤ length w.sites → Sided (passive_at w.sites c) (comp_at comps c).proc.todo
  pub opened : (c p : ℕ) → IsPort w.sites c p → open_at (comp_at comps c) p ≡ is_open (phase_in phases (chan_at w.sites c p)) (passive_at w.sites c p)
  pub kept : (k : ℕ) → phase_in phases k ≢ Broken

-- A row of flags tells of each number whether it is marked.
abbrev pub flag_at : List Bool → ℕ → Bool
flag_at row c = slice_index_or row c false

abbrev pub IsMarked : List Bool → ℕ → Type 0
IsMarked row c = flag_at row c ≡ true

-- component c can move exactly where it is marked
pub record Exact (sites : List Site) (s : State) (row : List Bool) (c : ℕ) : Type 0 where
  pub marked : flag_at row c ≡ true → CanStep sites s c
  pub marks : CanStep sites s c → flag_at row c ≡ true

-- the row has a flag for each component, and marks exactly those that can move
pub record MarksReady (w : Wiring) (s : State) (row : List Bool) : Type 0 where
  pub row_len : length row ≡ suc (length w.sites)
  pub exact : (c : ℕ) → Exact w.sites s row c

-- what reading a component's channels and processes needs
pub record Placed (sites : List Site) (phases : List Phase) (comps : List Component) : Type 0 where
  pub comps_len : length comps ≡ length sites
  pub chan_from : (c p : ℕ) → IsPort sites c p → 0 < chan_at sites c p
  pub chan_to : (c p : ℕ) → IsPort sites c p → chan_at sites c p ≤ length phases
  pub ports_few : (c : ℕ) → length (site_at sites c).chans < 2 ^ 32

-- what reading the phases of a component's channels needs
pub record ReadsChans (sites : List Site) (phases : List Phase) : Type 0 where
  pub chan_from : (c p : ℕ) → IsPort sites c p → 0 < chan_at sites c p
  pub chan_to : (c p : ℕ) → IsPort sites c p → chan_at sites c p ≤ length phases
  pub ports_few : (c : ℕ) → length (site_at sites c).chans < 2 ^ 32

-- each component can be started on its channels
pub record StartsWell (chans : List Chan) (sites : List Site) : Type 0 where
  pub chan_from : (c p : ℕ) → IsPort sites c p → 0 < chan_at sites c p
  pub chan_to : (c p : ℕ) → IsPort sites c p → chan_at sites c p ≤ length chans
  pub rows : (c : ℕ) → 0 < c → c ≤ length sites → MeetsRow (site_at sites c).kind (site_at sites c).sizes (map (chan_in chans) (site_at sites c).chans)

-- the first n components are at their start
pub record Started (chans : List Chan) (sites : List Site) (comps : List Component) (n : ℕ) : Type 0 where
  pub len : length comps ≡ n
  pub each : (c : ℕ) → 0 < c → c ≤ n → comp_at comps c ≡ start_of (site_at sites c).kind (site_at sites c).sizes (map (chan_in chans) (site_at sites c).chans)

-- there is a flag for each component, and each whose flag is not raised is at its start
pub record StartsUnless (chans : List Chan) (sites : List Site) (comps : List Component) (moved : List Bool) : Type 0 where
  pub len : length moved ≡ length sites
  pub each : (c : ℕ) → 0 < c → c ≤ length sites → slice_index_or moved (c - 1) true ≡ false → comp_at comps c ≡ start_of (site_at sites c).kind (site_at sites c).sizes (map (chan_in chans) (site_at sites c).chans)

-- of the first n components, those that can move are marked, and no others yet
pub record MarksAll (sites : List Site) (s : State) (row : List Bool) (n : ℕ) : Type 0 where
  pub len : length row ≡ suc (length sites)
  pub each : (c : ℕ) → c ≤ n → Exact sites s row c
  pub unmarked : (c : ℕ) → n < c → flag_at row c ≡ false

-- whether c can move was looked at again, and no other flag changed
pub record Refreshed (sites : List Site) (s : State) (old new : List Bool) (c : ℕ) : Type 0 where
  pub len : length new ≡ length old
  pub here : Exact sites s new c
  pub others : (d : ℕ) → d ≢ c → flag_at new d ≡ flag_at old d

-- the same of the components at both ends of a channel
pub record RefreshedEnds (sites : List Site) (s : State) (old new : List Bool) (pair : Ends) : Type 0 where
  pub len : length new ≡ length old
  pub at_end : (c : ℕ) (side : Bool) → at_side pair side ≡ Some c → Exact sites s new c
  pub others : (d : ℕ) → at_side pair true ≢ Some d → at_side pair false ≢ Some d → flag_at new d ≡ flag_at old d

-- a host command was made at an external port, and the components at the ends of its channel were looked at again
pub record CommandedAt (sites : List Site) (ends : List Ends) (comps : List Component) (phases phases' : List Phase) (old new : List Bool) (verb : Verb) (port : ℕ) (value : Option ℕ) (reply : Reply) : Type 0 where
  pub reply_is : reply ≡ reply_to verb (phase_in phases port)
  pub phases_is : phases' ≡ slice_set phases (port - 1) (host_after verb value (phase_in phases port))
  pub refreshed : RefreshedEnds sites (state_of phases' comps) old new (ends_in ends port)

-- What a net keeps: the run that its journal tells, and the components at which requests met.
pub record Keeps (w : Wiring) (s : State) (journal : List Entry) (limit : ℕ) (notes : Notes) : Type 0 where
  pub wired : WellWired w
  pub run : Run w (opening w) journal s
  pub unbroken : UnbrokenRun w (opening w) journal s
  pub within : length journal ≤ limit
  pub most : notes.most ≡ length w.sites
  pub listed : notes.listed ≡ true
  pub watches : Watches w.sites s.phases notes
  pub clashed : (c : ℕ) → Contains notes.numbers c ↔ ClashesIn w (opening w) journal c
