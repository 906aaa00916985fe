-- A net that is played by hand, command by command.
use Rattle.std.specs.Prelude.{◌≡◌, ℕ, ◌+◌, ◌-◌, ◌<◌, ◌≤◌, min, Option, Some, None, List, [], ◌∷◌, ◌++◌, length, drop, take, slice_index_or}
use Rattle.bz_model.specs.declared.event.Entry.{Entry}
use Rattle.bz_model.specs.declared.event.Who.TheVariants.{Worker}
use Rattle.bz_model.specs.declared.event.Entry.TheVariants.{Fired, Host, Rested}
use Rattle.bz_model.specs.declared.event.NetError.{NetError}
use Rattle.bz_net.specs.Replies.{IsFiring, IsLowestFiring, RefusesFire, RefusesLowest}
use Rattle.bz_net.specs.Simulation.{Simulation}
use Rattle.bz_explore_net.specs.declared.stepping.Mark.{Mark}
use Rattle.bz_explore_net.specs.declared.picker.Picker.{Picker}
use Rattle.bz_explore_net.specs.Replaying.{IsReplayed}

-- what contracts see of a net that is played by hand: the net, what the next run goes on from, how far the picking is, and the
-- commands that added entries
pub record Played : Type 0 where
  pub net : Simulation
  pub next : ℕ
  pub picker : Picker
  pub marks : List Mark

-- from which component on a run looks next, after these entries of one that looked from `from` on: the one after the last
-- that it fired, as far as 32 bits tell it
abbrev pub goes_on : ℕ → List Entry → ℕ
goes_on from [] = from
goes_on from (Fired who c p k mv value ∷ es) = goes_on (min (c + 1) 4294967295) es
goes_on from (Host who verb port value reply ∷ es) = goes_on from es
goes_on from (Rested who ∷ es) = goes_on from es

-- the entries that were added
abbrev pub added : Played → Played → List Entry
added old new = drop (length old.net.journal) new.net.journal

-- how all was before a command
pub record IsMark (stepping : Played) (command : List ℕ) (mark : Mark) : Type 0 where
  pub command_is : mark.command.items ≡ command
  pub entries : mark.entries ≡ length stepping.net.journal
  pub next : mark.next ≡ stepping.next
  pub picker : mark.picker ≡ stepping.picker

-- a command that added an entry left a mark of how all was before it
abbrev pub IsMarked : Played → List ℕ → Played → Type 0
IsMarked old command new = (mark : Mark) × IsMark old command mark × (new.marks ≡ old.marks ++ mark ∷ [])

-- one command alone left a mark, of a net at its opening
abbrev pub IsBegun : List ℕ → List Mark → Type 0
IsBegun command marks = (mark : Mark) × (marks ≡ mark ∷ []) × (mark.command.items ≡ command) × (mark.entries ≡ 0) × (mark.next ≡ 1)

-- a command that added entries left a mark of how all was before it, and any other one none
pub record Marked (old : Played) (command : List ℕ) (new : Played) : Type 0 where
  pub mark : Mark
  pub is : IsMark old command mark
  pub grew : length old.net.journal < length new.net.journal → new.marks ≡ old.marks ++ mark ∷ []
  pub stayed : length new.net.journal ≤ length old.net.journal → new.marks ≡ old.marks

-- All is as it was before the last `count` commands that left a mark, of which the first left this one: the journal, the state
-- that is the only one to which it leads, what a run goes on from, and the picking.
pub record IsBack (old : Played) (count : ℕ) (mark : Mark) (new : Played) : Type 0 where
  pub enough : count ≤ length old.marks
  pub first : mark ≡ slice_index_or old.marks (length old.marks - count) mark
  pub marks : new.marks ≡ take (length old.marks - count) old.marks
  pub net : IsReplayed old.net.wiring (take mark.entries old.net.journal) old.net.limit new.net
  pub next : new.next ≡ mark.next
  pub picker : new.picker ≡ mark.picker

-- firing a component at a port, or at the lowest at which it can move
abbrev pub IsFiringOf : Simulation → ℕ → Option ℕ → Entry → Type 0
IsFiringOf net c None entry = IsLowestFiring net (Worker 1) c entry
IsFiringOf net c (Some p) entry = IsFiring (Worker 1) c p entry

abbrev pub RefusesFiringOf : Simulation → ℕ → Option ℕ → NetError → Type 0
RefusesFiringOf net c None e = RefusesLowest net c e
RefusesFiringOf net c (Some p) e = RefusesFire net c p e
