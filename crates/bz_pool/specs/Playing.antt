-- What a session has in its record once it has played its commands.
use Rattle.std.specs.Prelude.{◌≡◌, ℕ, ◌-◌, ◌<◌, ◌≤◌, true, List, [], ◌∷◌, ◌++◌, Some, length, take, slice_get, ⊤}
use Rattle.std.specs.List.{All}
use Rattle.bz_model.specs.declared.event.Who.{Who}
use Rattle.bz_model.specs.declared.event.Reply.{Reply}
use Rattle.bz_model.specs.declared.event.HostCmd.{HostCmd}
use Rattle.bz_model.specs.declared.event.Entry.{Entry}
use Rattle.bz_model.specs.Nets.{Wiring}
use Rattle.bz_net.specs.Answering.{is_answer}
use Rattle.bz_locked.specs.Commands.{IsEntryOf, RefusesPoll}
use Rattle.bz_locked.specs.Quiet.{AwaitsIn}
use Rattle.bz_locked.specs.Terms.{Terms}
use Rattle.bz_past.specs.Moments.{Leads}
use Rattle.bz_past.specs.Standings.{HasTurned}
use Rattle.bz_past.specs.declared.standing.Standing.{Standing}
use Rattle.bz_past.specs.declared.standing.Standing.TheVariants.{Running, Waiting, Ended}
use Rattle.bz_past.specs.declared.view.Moment.{Moment}
use Rattle.bz_locked.specs.Working.{WasAdded, WasTold, WasRefused}
use Rattle.bz_locked.specs.declared.locked.Work.TheVariants as work
use Rattle.bz_words.specs.declared.words.SessionError.TheVariants.{BadWord, Event, Memory}
use Rattle.bz_pool.specs.declared.playing.End.{End}
use Rattle.bz_pool.specs.declared.playing.End.TheVariants.{Done, Resting, Spent, Stopped, Refused}

-- how many of the commands were answered before the end
abbrev pub answered : End → ℕ → ℕ
answered Done count = count
answered (Resting word) count = word - 1
answered (Spent word) count = word - 1
answered (Stopped word) count = word - 1
answered (Refused word e) count = word - 1

-- the word named is one of the commands, counted from 1
abbrev pub NamesWord : End → ℕ → Type 0
NamesWord Done count = ⊤
NamesWord (Resting word) count = (0 < word) × (word ≤ count)
NamesWord (Spent word) count = (0 < word) × (word ≤ count)
NamesWord (Stopped word) count = (0 < word) × (word ≤ count)
NamesWord (Refused word e) count = (0 < word) × (word ≤ count)

-- the entry of a command that was answered: it was added to the journal between what had been seen and what was seen
abbrev pub IsAnswerTo : Terms → Moment → Moment → Who → HostCmd → Entry → Type 0
IsAnswerTo t had saw who cmd entry = (reply : Reply) × (is_answer reply ≡ true) × IsEntryOf t.wiring.ports who cmd reply entry × ((len : ℕ) × WasAdded t had saw entry len)

-- an entry for each command, in order: each was added after what had been seen once the one before it was answered
abbrev pub AreAnswers : Terms → Moment → Moment → Who → List HostCmd → List Entry → Type 0
AreAnswers t had saw who [] [] = Leads had saw
AreAnswers t had saw who [] (e ∷ es) = ⊥
AreAnswers t had saw who (cmd ∷ cmds) [] = ⊥
AreAnswers t had saw who (cmd ∷ cmds) (e ∷ es) = (mid : Moment) × IsAnswerTo t had mid who cmd e × AreAnswers t mid saw who cmds es

-- what was found at the word that is named
abbrev pub Found : (HostCmd → Type 0) → List HostCmd → ℕ → Type 0
Found P words word = (cmd : HostCmd) × (slice_get words (word - 1) ≡ Some cmd) × P cmd

-- Why the play ended: at the word named the session was told so, or its command was refused, at a moment between what had been
-- seen and what was seen.
abbrev pub EndIs : Terms → Moment → Moment → Who → List HostCmd → End → Type 0
EndIs t had saw who words Done = ⊤
EndIs t had saw who words (Resting word) = Found (λ cmd. WasTold t had saw who cmd work.Resting) words word
EndIs t had saw who words (Spent word) = Found (λ cmd. WasTold t had saw who cmd work.Spent) words word
EndIs t had saw who words (Stopped word) = Found (λ cmd. WasTold t had saw who cmd work.Stopped) words word
EndIs t had saw who words (Refused word (Event e)) = Found (λ cmd. WasRefused t had saw (λ net e. RefusesPoll net cmd e) e) words word
EndIs t had saw who words (Refused word (BadWord at)) = ⊥
EndIs t had saw who words (Refused word Memory) = ⊥

-- the session runs, or waits for an answer to one of its commands
abbrev pub IsAtWork : Wiring → List HostCmd → Standing → Type 0
IsAtWork w words Running = ⊤
IsAtWork w words (Waiting verb port) = (word : ℕ) × Found (λ cmd. AwaitsIn w cmd (Waiting verb port)) words word
IsAtWork w words Ended = ⊥

-- it has been at work all the while
abbrev pub HasWorked : Wiring → Who → List HostCmd → Moment → Moment → Type 0
HasWorked w who words a b = (standings : List Standing) × All (IsAtWork w words) standings × HasTurned who standings a b

-- it has been at work, and then it has ended
abbrev pub HasEnded : Wiring → Who → List HostCmd → Moment → Moment → Type 0
HasEnded w who words a b = (standings : List Standing) × All (IsAtWork w words) standings × HasTurned who (standings ++ Ended ∷ []) a b

-- The record has grown by an entry for each command before the end, in order. What was seen once they were answered has led on to
-- the moment of the end.
pub record Played (t : Terms) (had saw : Moment) (who : Who) (words : List HostCmd) (end : End) (old new : List Entry) : Type 0 where
  pub entries : List Entry
  pub grown : new ≡ old ++ entries
  pub reached : Moment
  pub answers : AreAnswers t had reached who (take (answered end (length words)) words) entries
  pub why : EndIs t reached saw who words end
  pub on : Leads reached saw
