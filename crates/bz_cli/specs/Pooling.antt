-- What the command `pool` reads, plays and writes.
use Rattle.std.specs.Prelude.{◌≡◌, ℕ, Bool, true, false, ◌+◌, ◌-◌, ◌≤◌, ◌⊎◌, ⊤, if◌then◌else◌, nat_lt, Option, Some, None, Result, Ok, Err, IsErrAnd, List, length, map, slice_get, take, vec_len}
use Rattle.std.specs.List.{All, list_all}
use Rattle.std.specs.declared.alloc.Global.{Global}
use Rattle.std.specs.declared.vec.Vec.{Vec}
use Rattle.std.specs.Io.KnownBytes.{Appends, Keeps}
use Rattle.bz_model.specs.declared.event.Entry.{Entry}
use Rattle.bz_model.specs.declared.event.HostCmd.{HostCmd}
use Rattle.bz_model.specs.declared.event.NetError.{NetError}
use Rattle.bz_model.specs.declared.event.NetError.TheVariants as net
use Rattle.bz_model.specs.declared.event.Who.{Who}
use Rattle.bz_model.specs.declared.event.Who.TheVariants.{Host, Worker}
use Rattle.bz_model.specs.Nets.{Wiring, State, opening}
use Rattle.bz_model.specs.Runs.{Run}
use Rattle.bz_model.specs.Traces.{IsTrace}
use Rattle.bz_net.specs.Simulation.{Simulation}
use Rattle.bz_locked.specs.Terms.{Terms, terms}
use Rattle.bz_past.specs.Moments.{moment}
use Rattle.bz_past.specs.declared.standing.Turn.{Turn}
use Rattle.bz_past.specs.declared.view.Moment.{Moment}
use Rattle.bz_locked.specs.Journal.{fired_count}
use Rattle.bz_pool.specs.Pooled.{ArePlayed}
use Rattle.bz_words.specs.HostWords.{hosts_of, IsFirstUnfit}
use Rattle.bz_words.specs.Words.{Spell}
use Rattle.bz_pool.specs.declared.playing.End.{End}
use Rattle.bz_pool.specs.declared.playing.End.TheVariants as end
use Rattle.bz_words.specs.declared.words.SessionError.TheVariants as session
use Rattle.bz_cli.specs.declared.pooling.Pooled.{Pooled}
use Rattle.bz_cli_input.specs.Limits.{input_limit}
use Rattle.bz_cli_input.specs.Opening.{Denotes, RefusesNet}
use Rattle.bz_cli_input.specs.Stopping.{AppendsSome, StopsAtInput}
use Rattle.bz_cli_input.specs.declared.fault.Fault.{Fault}
use Rattle.bz_cli_input.specs.declared.fault.Fault.TheVariants.{Word, Ended, NoThread, Write, Memory}

abbrev pub RefusesSessions : List (List ℕ) → Fault → Type 0
RefusesSessions words (Word at) = IsFirstUnfit words at
RefusesSessions words Memory = ⊤
RefusesSessions words fault = ⊥

-- The trace of a run of the net of these terms from its opening, which has no more entries and no more firings than these allow,
-- went out as `Out` says. In it each session has played its list of commands, these are the ends of the sessions and of so many
-- workers, and no entry is of anybody else. All that they were told has led to the end of this run.
pub record WritesPlay (t : Terms) (lists : List (Vec HostCmd Global)) (workers : ℕ) (ends : List End) (Out : List ℕ → Type 0) : Type 0 where
  pub entries : List Entry
  pub to : State
  pub run : Run t.wiring (opening t.wiring) entries to
  pub last : Moment
  pub ends_there : (last.net.journal ≡ entries) × (last.net.state ≡ to)
  pub few : length entries ≤ t.limit
  pub within : fired_count entries ≤ t.fuel
  pub played : ArePlayed t lists workers last ends
  pub trace : List ℕ
  pub is_trace : IsTrace t.wiring entries trace
  pub out : Out trace

-- The error of an end that is a refusal. Words are read before they are played, so that an event alone is refused.
abbrev pub refusal_of : End → Option NetError
refusal_of (end.Refused word (session.Event e)) = Some e
refusal_of (end.Refused word (session.BadWord at)) = Some net.Memory
refusal_of (end.Refused word session.Memory) = Some net.Memory
refusal_of e = None

-- a session has played all its words
abbrev pub is_done : End → Bool
is_done end.Done = true
is_done e = false

abbrev pub IsAgreed : End → Type 0
IsAgreed e = refusal_of e ≡ None

-- whose end stands at a place, from 0: those of the sessions come first
abbrev pub who_at : ℕ → ℕ → Who
who_at place sessions = if nat_lt place sessions then Host (place + 1) else Worker (place - sessions + 1)

abbrev pub fault_for : NetError → Who → Fault
fault_for net.Memory who = Memory
fault_for e who = Ended e who

-- The fault of the first end that is a refusal.
pub record IsFirstRefused (ends : List End) (sessions : ℕ) (fault : Fault) : Type 0 where
  pub place : ℕ
  pub end : End
  pub here : slice_get ends place ≡ Some end
  pub error : NetError
  pub refused : refusal_of end ≡ Some error
  pub earlier : All IsAgreed (take place ends)
  pub told : fault ≡ fault_for error (who_at place sessions)

-- An end was refused: it is the first, and is told behind the trace.
abbrev pub TellsRefused : Terms → List (Vec HostCmd Global) → ℕ → Option (List ℕ) → Option (List ℕ) → Fault → Type 0
TellsRefused t lists workers old new fault =
    (ends : List End) × WritesPlay t lists workers ends (Appends old new) × IsFirstRefused ends (length lists) fault

-- The net was left in this state, with these entries as its journal.
abbrev pub IsLeft : Terms → List Entry → State → Simulation → Type 0
IsLeft t entries to left = (left.wiring ≡ t.wiring) × (left.journal ≡ entries) × (left.state ≡ to)

-- What went out of a pool that was closed, and what was answered: the trace of all, the net as it was left, and whether all
-- sessions are done; where the writer failed, a front of the trace.
abbrev pub WritesClosed : Terms → List (Vec HostCmd Global) → ℕ → Option (List ℕ) → Option (List ℕ) → Result Pooled Fault → Type 0
WritesClosed t lists workers old new (Ok pooled) =
    (play : WritesPlay t lists workers pooled.ends.items (Appends old new)) × All IsAgreed pooled.ends.items × (vec_len pooled.ends ≡ length lists + workers)
    × IsLeft t play.entries play.to pooled.net × (pooled.is_done ≡ list_all is_done (take (length lists) pooled.ends.items))
WritesClosed t lists workers old new (Err (Ended net.Memory who)) = ⊥
WritesClosed t lists workers old new (Err (Ended e who)) = TellsRefused t lists workers old new (Ended e who)
WritesClosed t lists workers old new (Err Memory) = TellsRefused t lists workers old new Memory
WritesClosed t lists workers old new (Err Write) = (ends : List End) × WritesPlay t lists workers ends (AppendsSome old new)
WritesClosed t lists workers old new (Err fault) = ⊥

-- the same of a net with these ends, whatever the lists of so many sessions were that were played on it
abbrev pub WritesOf : Simulation → List End → ℕ → ℕ → Option (List ℕ) → Option (List ℕ) → Result Pooled Fault → Type 0
WritesOf net ends sessions fuel old new answer =
    (lists : List (Vec HostCmd Global)) (workers : ℕ) (stopped : Bool) (turns : List Turn) → length lists ≡ sessions → length ends ≡ length lists + workers
    → ArePlayed (terms net.wiring net.limit fuel (length lists)) lists workers (moment net stopped turns) ends
    → WritesClosed (terms net.wiring net.limit fuel (length lists)) lists workers old new answer

-- Why a pool came to no close: memory or a thread was wanting. What is handed in at the end always agrees.
abbrev pub IsOfPool : Fault → Type 0
IsOfPool NoThread = ⊤
IsOfPool Memory = ⊤
IsOfPool fault = ⊥

-- No net was opened, or the pool came to no close, and nothing went out; or it was closed, on the net that the text denotes,
-- with a journal of so many entries.
abbrev pub PoolsText : List ℕ → Option (List ℕ) → ℕ → ℕ → List (Vec HostCmd Global) → ℕ → Option (List ℕ) → Option (List ℕ) → Result Pooled Fault → Type 0
PoolsText text asked fuel journal lists workers old new answer =
    IsErrAnd answer (λ fault. RefusesNet text asked fault × Keeps old new)
    ⊎ ((w : Wiring) × Denotes text asked w
    × (IsErrAnd answer (λ fault. IsOfPool fault × Keeps old new)
    ⊎ WritesClosed (terms w journal fuel (length lists)) lists workers old new answer))

-- The command `pool`: the words are refused; or they spell sessions, and the input is not taken, or they are played on it.
abbrev pub Pools : List ℕ → List (List ℕ) → Option (List ℕ) → ℕ → ℕ → ℕ → Option (List ℕ) → Option (List ℕ) → Result Pooled Fault → Type 0
Pools text words asked workers fuel journal old new answer =
    IsErrAnd answer (λ fault. RefusesSessions words fault × Keeps old new)
    ⊎ ((sessions : List (Vec HostCmd Global)) × Spell words (map hosts_of sessions)
    × (StopsAtInput old new answer ⊎ ((length text ≤ input_limit) × PoolsText text asked fuel journal sessions workers old new answer)))
