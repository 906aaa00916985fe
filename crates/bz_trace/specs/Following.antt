-- Lines played on a net: one, and all those of entries at the front of a text.
use Rattle.std.specs.Prelude.{◌≡◌, ◌⊎◌, ℕ, ◌+◌, ◌<◌, ◌≤◌, Option, Some, None, List, [], ◌∷◌, ◌++◌, length, map}
use Rattle.std.specs.List.{AllByRecursion}
use Rattle.bz_model.specs.declared.event.Entry.{Entry}
use Rattle.bz_model.specs.Entries.{HasLine, told}
use Rattle.bz_model.specs.Limits.{max_entries}
use Rattle.bz_model.specs.Names.{Outside}
use Rattle.bz_model.specs.Nets.{Wiring, State, outside}
use Rattle.bz_model.specs.Runs.{Follows}
use Rattle.bz_flat.specs.Wires.{WellWired}
use Rattle.bz_net.specs.Progress.{Progress, IsToldBy, Enters}
use Rattle.bz_trace_text.specs.Counting.{Tells}
use Rattle.bz_trace_text.specs.Reading.{line_at}
use Rattle.bz_trace_text.specs.Texts.{lines}
use Rattle.bz_trace.specs.Pieces.{Along, StopsBehind}
use Rattle.bz_trace.specs.declared.following.Step.{Step}
use Rattle.bz_trace.specs.declared.following.Step.TheVariants as step
use Rattle.bz_trace.specs.declared.lines.Followed.{Followed}

-- an entry was added that the line tells, and no other state can follow by such an entry
pub record Goes (old new : Progress) (line : Entry) : Type 0 where
  pub entry : Entry
  pub tells : told entry ≡ told line
  pub enters : Enters old entry new
  pub sole : (other : Entry) (next : State) → told other ≡ told line → Follows old.wiring old.state other next → next ≡ new.state

-- no entry that the line tells can follow
abbrev pub Stops : Progress → Entry → Type 0
Stops old line = (other : Entry) (next : State) → told other ≡ told line → Follows old.wiring old.state other next → ⊥

-- the net goes on by the line, or stays where it is
abbrev pub Plays : Progress → Progress → Entry → Step → Type 0
Plays old new line step.Goes = Goes old new line
Plays old new line step.Stops = Stops old line × (new ≡ old)

-- the number of the line that stopped, if one has: an earlier one, or this one
abbrev pub PlaysOn : Progress → Progress → Entry → ℕ → Option ℕ → Option ℕ → Type 0
PlaysOn old new line number None None = Goes old new line
PlaysOn old new line number None (Some k) = Stops old line × (new ≡ old) × (k ≡ number)
PlaysOn old new line number (Some k) stop = (stop ≡ Some k) × (new ≡ old)

-- some run of a net that is wired well led to where it is
abbrev pub IsLed : Progress → Type 0
IsLed net = WellWired net.wiring × ((journal : List Entry) × IsToldBy net journal)

-- the net is along the entries behind those of the pieces before, and has places for as many as a trace may have; or it is along
-- those before the line that stopped it
abbrev pub Stands : Wiring → List Entry → Progress → List Entry → Option ℕ → Type 0
Stands w past net entries None = Along w net (past ++ entries) × (max_entries ≤ net.left + length entries)
Stands w past net entries (Some line) = (stops : StopsBehind w past entries line) × Along w net (past ++ stops.before)

-- The text behind the first line of a trace is lines of entries and, behind them, the rest; those lines were followed, by a net
-- that stood behind the entries of the pieces before.
pub record FollowsText (names : Outside) (w : Wiring) (past : List Entry) (net : Progress) (text rest : List ℕ) (followed : Followed) : Type 0 where
  pub names_are : names ≡ outside w
  pub wired : WellWired w
  pub before : AllByRecursion (HasLine (outside w)) past
  pub entries : List Entry
  pub each : AllByRecursion (HasLine (outside w)) entries
  pub few : length entries ≤ max_entries
  pub as_told : map told entries ≡ entries
  pub text_is : text ≡ lines w.ports entries ++ rest
  pub tells : Tells followed.counts entries
  pub count_is : followed.count ≡ length entries
  pub stands : Stands w past net entries followed.stop

-- some text was followed up to here
abbrev pub IsFollowed : Outside → Progress → List ℕ → Followed → Type 0
IsFollowed names net rest followed = (w : Wiring) × (past : List Entry) × (text : List ℕ) × FollowsText names w past net text rest followed

-- no line of an entry stands here, or there are as many as a trace may have
abbrev pub NoneToFollow : Outside → List ℕ → Followed → Type 0
NoneToFollow names rest followed = (line_at names rest ≡ None) ⊎ (followed.count ≡ max_entries)

-- nothing was followed, or one line at least
abbrev pub GetsOn : Followed → Followed → List ℕ → List ℕ → Type 0
GetsOn old new text rest = ((new.count ≡ old.count) × (rest ≡ text)) ⊎ ((old.count < new.count) × (length rest < length text))

-- one line more was followed
pub record FollowsOne (old new : Progress) (line : Entry) (from to : Followed) : Type 0 where
  pub counted : (entries : List Entry) → Tells from.counts entries → Tells to.counts (entries ++ line ∷ [])
  pub count_is : to.count ≡ from.count + 1
  pub plays : PlaysOn old new line (from.count + 2) from.stop to.stop

-- the line at the front of a text was followed, and this stands behind it
abbrev pub FollowsFront : Outside → Progress → Progress → List ℕ → List ℕ → Followed → Followed → Type 0
FollowsFront names old new text after from to = (line : Entry) × (line_at names text ≡ Some (line, after)) × FollowsOne old new line from to
