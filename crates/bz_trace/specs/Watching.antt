-- The entries of a trace, shown to who watches, each with the net behind it.
use Rattle.std.specs.Prelude.{◌≡◌, ◌≤◌, ℕ, Some, None, List, [], ◌∷◌, ◌++◌, length}
use Rattle.std.specs.List.{AllByRecursion}
use Rattle.bz_model.specs.declared.event.Entry.{Entry}
use Rattle.bz_model.specs.Entries.{HasLine}
use Rattle.bz_model.specs.Limits.{max_entries}
use Rattle.bz_model.specs.Names.{Outside}
use Rattle.bz_model.specs.Nets.{Wiring, outside}
use Rattle.bz_net.specs.Progress.{Progress}
use Rattle.bz_trace_text.specs.Reading.{line_at}
use Rattle.bz_trace_text.specs.Texts.{NoEntry, first_line, lines}
use Rattle.bz_trace_text.specs.declared.text.Version.{Version}
use Rattle.bz_trace.specs.Following.{FollowsText}
use Rattle.bz_trace.specs.Pieces.{Along}
use Rattle.bz_trace.specs.declared.lines.Followed.{Followed}

-- what who watches holds behind some entries of a run of a net, and so behind one more, where the net stands behind that one
abbrev pub SeesLine : {A : Type 0} → (Wiring → List Entry → A → Type 0) → Progress → Entry → A → A → Type 0
SeesLine behind net line old new =
    (w : Wiring) (past : List Entry) → Along w net (past ++ line ∷ []) → behind w past old → behind w (past ++ line ∷ []) new

-- the entry of the line at the front of a text was shown, and this stands behind it
abbrev pub ShowsFront : {A : Type 0} → (Wiring → List Entry → A → Type 0) → Outside → Progress → A → List ℕ → List ℕ → A → Type 0
ShowsFront behind names net old text after new = (line : Entry) × (line_at names text ≡ Some (line, after)) × SeesLine behind net line old new

-- Lines of entries were followed, and as long as none has stopped, all of these were shown.
pub record Shows {A : Type 0} (behind : Wiring → List Entry → A → Type 0) (names : Outside) (w : Wiring) (past : List Entry) (net : Progress) (text rest : List ℕ) (followed : Followed) (now : A) : Type 0 where
  pub follows : FollowsText names w past net text rest followed
  pub seen : followed.stop ≡ None → behind w (past ++ follows.entries) now

-- All lines of entries at the front of a text were shown, as many as a trace may have, behind those of the pieces before.
pub record ShowsAll {A : Type 0} (behind : Wiring → List Entry → A → Type 0) (w : Wiring) (past : List Entry) (text : List ℕ) (now : A) : Type 0 where
  pub entries : List Entry
  pub each : AllByRecursion (HasLine (outside w)) entries
  pub few : length entries ≤ max_entries
  pub rest : List ℕ
  pub text_is : text ≡ lines w.ports entries ++ rest
  pub ends : NoEntry (outside w) (length entries) rest
  pub seen : behind w (past ++ entries) now

-- the same of the trace that is this text
pub record ShowsTrace {A : Type 0} (behind : Wiring → List Entry → A → Type 0) (w : Wiring) (past : List Entry) (text : List ℕ) (now : A) : Type 0 where
  pub version : Version
  pub body : List ℕ
  pub text_is : text ≡ first_line version ++ body
  pub shows : ShowsAll behind w past body now
