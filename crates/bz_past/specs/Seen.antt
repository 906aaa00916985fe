-- What contracts see of a past, its keeper, its owners and its stopper.
pub use Rattle.atomic_table.specs.Seated.{TableId}
use Rattle.std.specs.Prelude.{◌≡◌, ℕ, Bool, false, []}
use Rattle.bz_model.specs.declared.event.Who.{Who}
use Rattle.bz_model.specs.declared.event.Who.TheVariants.{Host}
use Rattle.bz_net.specs.Simulation.{Simulation}
use Rattle.bz_past.specs.Moments.{moment}
use Rattle.bz_past.specs.declared.view.Moment.{Moment}
use Rattle.bz_past.specs.declared.view.Roll.{Roll}
use Rattle.bz_past.specs.declared.view.View.{View}
use Rattle.bz_past.specs.declared.view.View.TheVariants.{Knows, Acts, Halts, Owns, Stops, Spent}

-- Which past it is of, and what lies there now; to how many hosts and workers owners were given, how many of these were not taken
-- in yet, how far the last entry stands of those that were, and whether the stopper was used.
pub record Kept : Type 0 where
  pub table : TableId
  pub now : Moment
  pub hosts : ℕ
  pub workers : ℕ
  pub out : ℕ
  pub last : ℕ
  pub used : Bool

-- which past it is of, whose entries it may add, and what it has seen there
pub record Sight : Type 0 where
  pub table : TableId
  pub who : Who
  pub seen : Moment

-- which past it is of, and whether it was used
pub record Halt : Type 0 where
  pub table : TableId
  pub used : Bool

-- the keeper of a past that has just begun with this net: nobody owns anything yet
abbrev pub IsFresh : TableId → Simulation → Kept → Type 0
IsFresh table net k = (k.table ≡ table) × (k.now ≡ moment net false []) × (k.hosts ≡ 0) × (k.workers ≡ 0) × (k.out ≡ 0) × (k.last ≡ 0) × (k.used ≡ false)

-- nothing is another but the moment, and whether the stopper was used
abbrev pub KeepsRoll : Kept → Kept → Type 0
KeepsRoll old new = (new.table ≡ old.table) × (new.hosts ≡ old.hosts) × (new.workers ≡ old.workers) × (new.out ≡ old.out) × (new.last ≡ old.last)

-- a net of nothing
abbrev pub nothing : Simulation
nothing = record { wiring = record { chans = []; sites = []; ports = [] }; state = record { phases = []; procs = [] }; journal = []; limit = 0; room = 0 }

-- nobody owns anything, nor stopped anything
abbrev pub nobody : Moment → Roll
nobody now = record { now = now; hosts = 0; workers = 0; out = 0; last = 0; used = false }

-- what a token knows of all, whose it is, what it saw, and whether it was used
abbrev pub roll_of : View → Roll
roll_of (Knows r) = r
roll_of (Acts r w a) = r
roll_of (Halts r u) = r
roll_of (Owns w a) = nobody a
roll_of (Stops u) = nobody (moment nothing false [])
roll_of Spent = nobody (moment nothing false [])

abbrev pub whose : View → Who
whose (Knows r) = Host 0
whose (Acts r w a) = w
whose (Halts r u) = Host 0
whose (Owns w a) = w
whose (Stops u) = Host 0
whose Spent = Host 0

abbrev pub saw_of : View → Moment
saw_of (Knows r) = r.now
saw_of (Acts r w a) = a
saw_of (Halts r u) = r.now
saw_of (Owns w a) = a
saw_of (Stops u) = moment nothing false []
saw_of Spent = moment nothing false []

abbrev pub used_of : View → Bool
used_of (Knows r) = r.used
used_of (Acts r w a) = r.used
used_of (Halts r u) = u
used_of (Owns w a) = false
used_of (Stops u) = u
used_of Spent = false

-- what contracts see of a keeper that knows this
abbrev pub kept_of : TableId → Roll → Kept
kept_of table r = record { table = table; now = r.now; hosts = r.hosts; workers = r.workers; out = r.out; last = r.last; used = r.used }

-- the name of no past
abbrev pub no_table : TableId
no_table = record { words = 0; slots = 0; views_name = 0; atom = 0; block = 0; offset = 0; slot_names = [] }
