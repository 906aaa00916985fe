-- What the command `run` reads, plays and writes.
use Rattle.std.specs.Prelude.{◌≡◌, ℕ, ◌+◌, ◌≤◌, ◌⊎◌, ⊤, Bool, true, false, if◌then◌else◌, List, [], ◌∷◌, ◌++◌, length, map, Option, Some, None, Result, Ok, Err, IsErrAnd}
use Rattle.std.specs.Io.KnownBytes.{Appends, Keeps}
use Rattle.std.specs.List.{AllByRecursion}
use Rattle.bz_model.specs.declared.event.Cmd.{Cmd}
use Rattle.bz_model.specs.declared.event.Cmd.TheVariants as word
use Rattle.bz_model.specs.declared.event.HostCmd.{HostCmd}
use Rattle.bz_model.specs.declared.event.Entry.{Entry}
use Rattle.bz_model.specs.declared.event.Entry.TheVariants as entry
use Rattle.bz_model.specs.declared.event.Reply.{Reply}
use Rattle.bz_model.specs.declared.event.Reply.TheVariants as reply
use Rattle.bz_model.specs.declared.event.NetError.{NetError}
use Rattle.bz_model.specs.declared.event.NetError.TheVariants as net
use Rattle.bz_model.specs.Nets.{Wiring}
use Rattle.bz_model.specs.Plays.{PlaysAll, Stops}
use Rattle.bz_model.specs.Traces.{IsTrace}
use Rattle.bz_cli_input.specs.declared.fault.Fault.{Fault}
use Rattle.bz_cli_input.specs.declared.fault.Fault.TheVariants.{Word, Event, Write, Memory}
use Rattle.bz_cli_core.specs.declared.playing.End.{End}
use Rattle.bz_cli_core.specs.declared.playing.End.TheVariants as end
use Rattle.bz_cli_core.specs.declared.playing.Halt.{Halt}
use Rattle.bz_cli_core.specs.declared.playing.Stop.{Stop}
use Rattle.bz_cli_core.specs.declared.run.Played.{Played}
use Rattle.bz_net.specs.Progress.{IsToldBy}
use Rattle.bz_cli_input.specs.Limits.{input_limit}
use Rattle.bz_cli_input.specs.Stopping.{AppendsSome, StopsAtInput}
use Rattle.bz_words.specs.Words.{Command, IsWord, command_of}
use Rattle.bz_cli_input.specs.Opening.{Denotes, RefusesNet}

-- each word spells a command
abbrev pub AreCommands : List (List ℕ) → List Command → Type 0
AreCommands [] [] = ⊤
AreCommands [] (c ∷ cs) = ⊥
AreCommands (word ∷ words) [] = ⊥
AreCommands (word ∷ words) (c ∷ cs) = IsWord word c × AreCommands words cs

-- word number `at`, from 1, is the first that spells none
pub record IsBadAt (words : List (List ℕ)) (at : ℕ) : Type 0 where
  pub earlier : List (List ℕ)
  pub word : List ℕ
  pub later : List (List ℕ)
  pub words_are : words ≡ earlier ++ word ∷ later
  pub at_is : at ≡ length earlier + 1
  pub commands : List Command
  pub spelt : AreCommands earlier commands
  pub none : (c : Command) → IsWord word c → ⊥

abbrev pub RefusesWords : List (List ℕ) → Fault → Type 0
RefusesWords words (Word at) = IsBadAt words at
RefusesWords words Memory = ⊤
RefusesWords words fault = ⊥

-- the fault of a play that stopped
abbrev pub fault_for : ℕ → NetError → Fault
fault_for word net.Memory = Memory
fault_for word e = Event e word

abbrev pub fault_of : Stop → Fault
fault_of stop = fault_for stop.word stop.error

-- a host command that is replied so did nothing
abbrev pub is_refusal : Reply → Bool
is_refusal (reply.Busy phase) = true
is_refusal reply.NotYet = true
is_refusal (reply.NotTaken phase) = true
is_refusal reply.Done = false
is_refusal (reply.Value v) = false
is_refusal (reply.Watched phase) = false

-- the reply of a host command that did nothing
abbrev pub refusal_in : Entry → Option Reply
refusal_in (entry.Host who verb port value reply) = if is_refusal reply then Some reply else None
refusal_in (entry.Fired who c p k mv value) = None
refusal_in (entry.Rested who) = None

abbrev pub NoneRefused : List Entry → Type 0
NoneRefused entries = AllByRecursion (λ e. refusal_in e ≡ None) entries

-- Word number `halt.word`, counted from 1, is a host command. The words up to it were played, and its entry, which is the last,
-- is the first whose reply is a refusal.
pub record HaltsAt (w : Wiring) (cmds : List Cmd) (halt : Halt) (entries : List Entry) : Type 0 where
  pub earlier : List Cmd
  pub cmd : HostCmd
  pub later : List Cmd
  pub cmds_are : cmds ≡ earlier ++ word.Host cmd ∷ later
  pub word_is : halt.word ≡ length earlier + 1
  pub plays : PlaysAll w (earlier ++ word.Host cmd ∷ []) entries
  pub front : List Entry
  pub last : Entry
  pub entries_are : entries ≡ front ++ last ∷ []
  pub none : NoneRefused front
  pub refused : refusal_in last ≡ Some halt.reply

-- in a strict play no reply is a refusal, as long as it goes on
abbrev pub GoesOn : Bool → List Entry → Type 0
GoesOn strict entries = strict ≡ true → NoneRefused entries

-- The entries are those that the commands play on the net: to their end, up to where they stop, or up to where a strict play halts.
abbrev pub IsPlayed : Wiring → ℕ → Bool → List Cmd → End → List Entry → Type 0
IsPlayed w limit strict cmds end.All entries = PlaysAll w cmds entries × GoesOn strict entries
IsPlayed w limit strict cmds (end.Halt halt) entries = (strict ≡ true) × HaltsAt w cmds halt entries
IsPlayed w limit strict cmds (end.Stop stop) entries = Stops w limit cmds stop.word stop.error entries × GoesOn strict entries

-- The trace of what the commands play on a net went out as `Out` says.
pub record WritesTrace (w : Wiring) (limit : ℕ) (strict : Bool) (cmds : List Cmd) (end : End) (Out : List ℕ → Type 0) : Type 0 where
  pub entries : List Entry
  pub plays : IsPlayed w limit strict cmds end entries
  pub within : length entries ≤ limit
  pub trace : List ℕ
  pub is_trace : IsTrace w entries trace
  pub out : Out trace

-- how a play ended whose words were all played, or that halted
abbrev pub end_at : Option Halt → End
end_at None = end.All
end_at (Some halt) = end.Halt halt

-- What went out of commands played on a net that is open, and what was answered: the trace of all, or up to where they halt, and the
-- net at the state that its entries lead to; or up to the event that was refused or wanted memory. Where the writer failed, a front
-- of the trace went out.
abbrev pub PlaysNet : Wiring → ℕ → Bool → List Cmd → Option (List ℕ) → Option (List ℕ) → Result Played Fault → Type 0
PlaysNet w limit strict cmds old new (Ok played) =
    (trace : WritesTrace w limit strict cmds (end_at played.halt) (Appends old new)) × (played.net.wiring ≡ w) × IsToldBy played.net trace.entries
PlaysNet w limit strict cmds old new (Err (Event net.Memory word)) = ⊥
PlaysNet w limit strict cmds old new (Err (Event e word)) = WritesTrace w limit strict cmds (end.Stop (record { word = word; error = e })) (Appends old new)
PlaysNet w limit strict cmds old new (Err Memory) = (word : ℕ) × WritesTrace w limit strict cmds (end.Stop (record { word = word; error = net.Memory })) (Appends old new)
PlaysNet w limit strict cmds old new (Err Write) = (end : End) × WritesTrace w limit strict cmds end (AppendsSome old new)
PlaysNet w limit strict cmds old new (Err fault) = ⊥

-- What went out of commands played on the net of a text, and what was answered: no net was opened and nothing went out, or the
-- commands were played on the net that the text denotes.
abbrev pub RunsText : List ℕ → Option (List ℕ) → ℕ → Bool → List Cmd → Option (List ℕ) → Option (List ℕ) → Result Played Fault → Type 0
RunsText text asked limit strict cmds old new answer =
    IsErrAnd answer (λ fault. RefusesNet text asked fault × Keeps old new)
    ⊎ ((w : Wiring) × Denotes text asked w × PlaysNet w limit strict cmds old new answer)

-- The words are refused, and nothing went out.
abbrev pub StopsAtWords : {E : Type 0} → List (List ℕ) → Option (List ℕ) → Option (List ℕ) → Result E Fault → Type 0
StopsAtWords words old new answer = IsErrAnd answer (λ fault. RefusesWords words fault × Keeps old new)

-- The command `run`: the words are refused; or they spell commands, and the input is not taken, or they are played on it.
abbrev pub Runs : List ℕ → List (List ℕ) → Option (List ℕ) → ℕ → Bool → Option (List ℕ) → Option (List ℕ) → Result Played Fault → Type 0
Runs text words asked limit strict old new answer =
    StopsAtWords words old new answer
    ⊎ ((cmds : List Cmd) × AreCommands words (map command_of cmds)
    × (StopsAtInput old new answer ⊎ ((length text ≤ input_limit) × RunsText text asked limit strict cmds old new answer)))
