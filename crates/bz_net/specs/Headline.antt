-- What a net promises of any list of events of anybody, in any interleaving: the headline, half-sentence by half-sentence.
use Rattle.std.specs.Prelude.{◌≡◌, ℕ, ⊤, List, [], ◌∷◌, ◌++◌, Option, None, Some, Result, Ok, Err}
use Rattle.bz_model.specs.declared.event.Who.{Who}
use Rattle.bz_model.specs.declared.event.Entry.{Entry}
use Rattle.bz_model.specs.declared.event.Entry.TheVariants as entry
use Rattle.bz_model.specs.declared.event.HostCmd.{HostCmd}
use Rattle.bz_model.specs.declared.event.NetError.{NetError}
use Rattle.bz_model.specs.declared.event.NetError.TheVariants.{NotEnabled}
use Rattle.bz_model.specs.declared.event.Reply.{Reply}
use Rattle.bz_model.specs.Names.{port_number}
use Rattle.bz_model.specs.Nets.{Wiring, StepsAt, opening}
use Rattle.bz_model.specs.Runs as runs
use Rattle.bz_net.specs.declared.event.Event.{Event}
use Rattle.bz_net.specs.declared.event.Event.TheVariants.{Move, Fire, Step, Rest as AskRest, Host as Command}
use Rattle.bz_net.specs.declared.event.Answer.{Answer}
use Rattle.bz_net.specs.declared.event.Answer.TheVariants.{Fired, Rest, Host}
use Rattle.bz_net.specs.declared.event.RestReply.TheVariants.{Rest as IsRest}
use Rattle.bz_net.specs.Simulation.{Simulation}
use Rattle.bz_net.specs.Replies.{RefusesEntry}
use Rattle.bz_net.specs.Serving.{Serves, Refuses}
use Rattle.bz_net.specs.Unbroken.{IsUnbroken, UnbrokenRun}

-- an event of somebody, and what it is told: an answer, or why it is refused
abbrev pub Asked : Type 0
Asked = Who × Event

abbrev pub Outcome : Type 0
Outcome = Result Answer NetError

-- an event is answered as it is to be, or refused for a reason of its own, and then nothing changes
abbrev pub Answers : Simulation → Simulation → Asked → Outcome → Type 0
Answers old new (who, event) (Ok answer) = Serves old new who event answer
Answers old new (who, event) (Err e) = Refuses old event e × (new ≡ old)

-- what is told tells whether P holds, unless the journal was full or memory was wanting
abbrev pub Decides : Type 0 → Simulation → Outcome → Type 0
Decides P net (Ok answer) = P
Decides P net (Err NotEnabled) = P → ⊥
Decides P net (Err e) = P × RefusesEntry net e

-- a move is made exactly where the processes enable it
abbrev pub Offers : Simulation → Simulation → Asked → Outcome → Type 0
Offers old new (who, Move c p) told = Decides (StepsAt old.wiring.sites old.state c p) old told
Offers old new (who, Fire c) told = Decides (runs.CanStep old.wiring.sites old.state c) old told
Offers old new asked told = ⊤

-- rest is told where no move is enabled, and who asks there is told nothing else, unless the journal was full or memory wanting
abbrev pub Reports : Simulation → Simulation → Asked → Outcome → Type 0
Reports old new asked (Ok (Rest IsRest)) = runs.Rest old.wiring.sites old.state
Reports old new (who, AskRest) (Ok answer) = runs.Rest old.wiring.sites old.state → ⊥
Reports old new (who, Step from) (Ok answer) = runs.Rest old.wiring.sites old.state → ⊥
Reports old new (who, AskRest) (Err e) = runs.Rest old.wiring.sites old.state × RefusesEntry old e
Reports old new (who, Step from) (Err e) = RefusesEntry old e
Reports old new asked told = ⊤

-- no channel is broken after it
abbrev pub BreaksNone : Simulation → Simulation → Asked → Outcome → Type 0
BreaksNone old new asked told = IsUnbroken new.state

-- a relation holds of each event in turn, between the net before it and the net after it
abbrev pub EachInTurn : (Simulation → Simulation → Asked → Outcome → Type 0) → Simulation → List Simulation → List Asked → List Outcome → Type 0
EachInTurn P net [] [] [] = ⊤
EachInTurn P net (next ∷ nets) (asked ∷ events) (told ∷ answers) = P net next asked told × EachInTurn P next nets events answers
EachInTurn P net nets events answers = ⊥

-- the last of some nets, the first of them given apart
abbrev pub last_of : Simulation → List Simulation → Simulation
last_of net [] = net
last_of net (next ∷ nets) = last_of next nets

-- what an answer enters into the journal
abbrev pub host_entry : Who → HostCmd → Option ℕ → Reply → List Entry
host_entry who cmd None reply = []
host_entry who cmd (Some port) reply = entry.Host who cmd.verb port cmd.value reply ∷ []

abbrev pub entry_of : Wiring → Asked → Outcome → List Entry
entry_of w asked (Ok (Fired e)) = e ∷ []
entry_of w (who, event) (Ok (Rest IsRest)) = entry.Rested who ∷ []
entry_of w (who, Command cmd) (Ok (Host reply)) = host_entry who cmd.now (port_number w.ports cmd.now.port.items) reply
entry_of w asked told = []

abbrev pub entries_of : Wiring → List Asked → List Outcome → List Entry
entries_of w (asked ∷ events) (told ∷ answers) = entry_of w asked told ++ entries_of w events answers
entries_of w events answers = []

pub record Headline (old new : Simulation) (events : List Asked) (answers : List Outcome) : Type 0 where
  -- the net after each event
  pub nets : List Simulation
  pub last : last_of old nets ≡ new
  -- "the replies": each event is answered as it is to be
  pub replies : EachInTurn Answers old nets events answers
  -- ", the state and the journal are a run of the composed handshake processes": what was answered is entered in order
  pub wiring : new.wiring ≡ old.wiring
  pub journal : new.journal ≡ old.journal ++ entries_of old.wiring events answers
  pub run : runs.Run new.wiring (opening new.wiring) new.journal new.state
  -- "every enabled move of the processes is offered and no other"
  pub offered : EachInTurn Offers old nets events answers
  -- "rest is reported exactly where none is left"
  pub rest : EachInTurn Reports old nets events answers
  -- "no channel is ever requested twice before its acknowledgement": in no state of a run that the journal tells, after no event
  pub ever : UnbrokenRun new.wiring (opening new.wiring) new.journal new.state
  pub between : EachInTurn BreaksNone old nets events answers
