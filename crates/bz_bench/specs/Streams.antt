-- What passed at a port, by the host's entries.
use Rattle.std.specs.Prelude.{ℕ, Bool, true, false, nat_eq, if◌then◌else◌, Option, Some, None, List, [], ◌∷◌}
use Rattle.std.specs.List.{flat_map}
use Rattle.bz_model.specs.declared.channel.Chan.{Chan}
use Rattle.bz_model.specs.declared.channel.ChanKind.{ChanKind}
use Rattle.bz_model.specs.declared.channel.ChanKind.TheVariants.{Sync, Push, Pull}
use Rattle.bz_model.specs.declared.event.Entry.{Entry}
use Rattle.bz_model.specs.declared.event.Entry.TheVariants.{Fired, Host, Rested}
use Rattle.bz_model.specs.declared.event.Reply.{Reply}
use Rattle.bz_model.specs.declared.event.Reply.TheVariants.{Done, Value, NotYet, Busy, NotTaken, Watched}
use Rattle.bz_model.specs.declared.event.Verb.{Verb}
use Rattle.bz_model.specs.declared.event.Verb.TheVariants.{Offer, Collect, Accept, Answer}
use Rattle.bz_model.specs.Names.{channel}
use Rattle.bz_model.specs.Nets.{Wiring}

-- the words that begin a handshake, and those that end one
abbrev pub begins : Verb → Bool
begins Offer = true
begins Accept = true
begins verb = false

abbrev pub ends : Verb → Bool
ends Collect = true
ends Answer = true
ends verb = false

-- what came or went by a word with this value and this reply: nothing where it was not done
abbrev pub carried : Option ℕ → Reply → List (Option ℕ)
carried given Done = given ∷ []
carried given (Value v) = Some v ∷ []
carried given NotYet = []
carried given (Busy phase) = []
carried given (NotTaken phase) = []
carried given (Watched phase) = []

-- what an entry shows of these words at a port
abbrev pub shown : (Verb → Bool) → ℕ → Entry → List (Option ℕ)
shown of port (Host who verb at given reply) = if nat_eq at port then (if of verb then carried given reply else []) else []
shown of port (Fired who c p k mv value) = []
shown of port (Rested who) = []

-- the handshakes that were begun at a port, and those that were ended, each with the value that came or went by that word
abbrev pub begun : ℕ → List Entry → List (Option ℕ)
begun port entries = flat_map (shown begins port) entries

abbrev pub ended : ℕ → List Entry → List (Option ℕ)
ended port entries = flat_map (shown ends port) entries

-- what passed: on a pull channel a value goes with the end of a handshake, else with its beginning
abbrev pub passed_on : Option Chan → List (Option ℕ) → List (Option ℕ) → List (Option ℕ)
passed_on None begun ended = []
passed_on (Some chan) begun ended = by chan.kind
  where
    by : ChanKind → List (Option ℕ)
    by Sync = begun
    by Push = begun
    by Pull = ended

abbrev pub passed : Wiring → ℕ → List Entry → List (Option ℕ)
passed w port entries = passed_on (channel w.chans port) (begun port entries) (ended port entries)
