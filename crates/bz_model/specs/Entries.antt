-- The entries that have a line in the trace of a net, and what a line does not tell of one.
use Rattle.std.specs.Prelude.{◌≡◌, ℕ, ◌<◌, ◌≤◌, ◌^◌, Bool, true, false, Option, Some, None, List, [], unwrap_or, IfSome, ⊤}
use Rattle.std.specs.Option.{option_map}
use Rattle.bz_model.specs.declared.channel.Chan.{Chan}
use Rattle.bz_model.specs.declared.channel.Move.{Move}
use Rattle.bz_model.specs.declared.channel.Phase.{Phase}
use Rattle.bz_model.specs.declared.channel.Phase.TheVariants as phase
use Rattle.bz_model.specs.Limits.{max_width}
use Rattle.bz_model.specs.declared.event.Who.{Who}
use Rattle.bz_model.specs.declared.event.Who.TheVariants as who
use Rattle.bz_model.specs.declared.event.Verb.{Verb}
use Rattle.bz_model.specs.declared.event.Verb.TheVariants.{Offer, Answer}
use Rattle.bz_model.specs.declared.event.Reply.{Reply}
use Rattle.bz_model.specs.declared.event.Reply.TheVariants as reply
use Rattle.bz_model.specs.declared.event.Entry.{Entry}
use Rattle.bz_model.specs.declared.event.Entry.TheVariants as entry
use Rattle.bz_model.specs.Phases.{carries}
use Rattle.bz_model.specs.Names.{Outside, channel, port_name, port_number}

-- hosts count to 16, workers to 8
abbrev pub IsWho : Who → Type 0
IsWho (who.Host n) = (0 < n) × (n ≤ 16)
IsWho (who.Worker n) = (0 < n) × (n ≤ 8)

abbrev pub IsHost : Who → Type 0
IsHost (who.Host n) = (0 < n) × (n ≤ 16)
IsHost (who.Worker n) = ⊥

abbrev pub IsNumber32 : ℕ → Type 0
IsNumber32 n = n < 2 ^ 32

abbrev pub IsValue : ℕ → Type 0
IsValue v = v < 2 ^ max_width

abbrev pub IsPhase : Phase → Type 0
IsPhase phase.Idle = ⊤
IsPhase (phase.Asked v) = IfSome v IsValue
IsPhase phase.Taken = ⊤
IsPhase (phase.Replied v) = IfSome v IsValue
IsPhase phase.Broken = ⊤

abbrev pub IsReply : Reply → Type 0
IsReply reply.Done = ⊤
IsReply (reply.Value v) = IsValue v
IsReply reply.NotYet = ⊤
IsReply (reply.Busy p) = IsPhase p
IsReply (reply.NotTaken p) = IsPhase p
IsReply (reply.Watched p) = IsPhase p

-- whether a move on this channel carries a value; on a channel that the net does not have none does
abbrev pub carries_at : List Chan → ℕ → Move → Bool
carries_at chans k mv = unwrap_or (option_map (λ c. carries c.kind mv) (channel chans k)) false

-- a value stands exactly where one is carried
abbrev pub IsCarried : Bool → Option ℕ → Type 0
IsCarried true (Some v) = IsValue v
IsCarried true None = ⊥
IsCarried false None = ⊤
IsCarried false (Some v) = ⊥

-- an offer and an answer may bring a value
abbrev pub IsGiven : Verb → Option ℕ → Type 0
IsGiven Offer value = IfSome value IsValue
IsGiven Answer value = IfSome value IsValue
IsGiven verb None = ⊤
IsGiven verb (Some v) = ⊥

-- The entry has a line: its numbers are in range, a firing has a value exactly where the channel and the move carry one,
-- and a host's port is the one of its name.
abbrev pub HasLine : Outside → Entry → Type 0
HasLine net (entry.Fired w comp port chan mv value) =
    IsWho w × IsNumber32 comp × IsNumber32 chan × IsCarried (carries_at net.chans chan mv) value
HasLine net (entry.Host w verb port value reply) =
    IsHost w × (port_number net.ports (unwrap_or (port_name net.ports port) []) ≡ Some port) × IsGiven verb value × IsReply reply
HasLine net (entry.Rested w) = IsWho w

-- who made an entry is in range
abbrev pub HasWho : Entry → Type 0
HasWho (entry.Fired w comp port chan mv value) = IsWho w
HasWho (entry.Host w verb port value reply) = IsHost w
HasWho (entry.Rested w) = IsWho w

-- the entry as its line tells it: without the port of a firing
abbrev pub told : Entry → Entry
told (entry.Fired w comp port chan mv value) = entry.Fired w comp 0 chan mv value
told (entry.Host w verb port value reply) = entry.Host w verb port value reply
told (entry.Rested w) = entry.Rested w
