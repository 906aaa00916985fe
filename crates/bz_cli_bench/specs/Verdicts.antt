-- What a verdict says of the entries that were made on a net, and of the state in which it is then.
use Rattle.std.specs.Prelude.{◌≡◌, ◌⊎◌, ℕ, ◌<◌, ⊤, Bool, true, false, Option, Some, None, List, drop, length, take}
use Rattle.bz_model.specs.declared.channel.Chan.{Chan}
use Rattle.bz_model.specs.declared.channel.ChanKind.{ChanKind}
use Rattle.bz_model.specs.declared.channel.ChanKind.TheVariants.{Sync, Push, Pull}
use Rattle.bz_model.specs.declared.channel.Phase.TheVariants.{Asked}
use Rattle.bz_model.specs.declared.event.Entry.{Entry}
use Rattle.bz_model.specs.declared.event.Verb.{Verb}
use Rattle.bz_model.specs.declared.event.Verb.TheVariants.{Offer, Collect, Accept, Answer}
use Rattle.bz_model.specs.Names.{channel, numbered, port_sense}
use Rattle.bz_model.specs.Nets.{Wiring, State, opening, phase_at}
use Rattle.bz_model.specs.Runs.{Rest, Run}
use Rattle.bz_net.specs.Answering.{would_answer}
use Rattle.bz_bench.specs.Streams.{begun, ended, passed}
use Rattle.bz_bench.specs.Dues.{DiffersAt, IsWhole, group_of, is_done, item_at, may_begin, may_end}
use Rattle.bz_bench.specs.Groups.{OfEach}
use Rattle.bz_bench.specs.declared.stream.Item.TheVariants.{Any}
use Rattle.bz_bench.specs.declared.stream.Stream.{Stream}
use Rattle.bz_cli_bench.specs.declared.verdict.Verdict.{Verdict}
use Rattle.bz_cli_bench.specs.declared.verdict.Verdict.TheVariants.{Passed, Differs, Extra, Stuck, Spins, Spent}

-- of some port this holds of its number and its stream
abbrev pub OfSome : List Stream → (ℕ → Stream → Type 0) → Type 0
OfSome streams P = (port : ℕ) × (stream : Stream) × (numbered streams port ≡ Some stream) × P port stream

-- the word that begins a handshake at a port of this sense, and the one that ends it
abbrev pub beginning : Bool → Verb
beginning true = Offer
beginning false = Accept

abbrev pub ending : Bool → Verb
ending true = Collect
ending false = Answer

-- no word of the stream of a port would be done: neither the next beginning, where one may come in this group, nor an end
abbrev pub IsStill : Wiring → State → List Entry → ℕ → ℕ → Stream → Type 0
IsStill w s entries group port stream = (passive : Bool) → port_sense w.ports port ≡ Some passive →
    (may_begin stream group (length (begun port entries)) ≡ true → would_answer s (beginning passive) port ≡ false)
    × (may_end stream (length (ended port entries)) ≡ true → would_answer s (ending passive) port ≡ false)

-- of what stands in a group and those above it a handshake has not begun, or one has not ended that has to
abbrev pub IsShort : List Entry → ℕ → ℕ → Stream → Type 0
IsShort entries group port stream = is_done stream group (length (begun port entries)) (length (ended port entries)) ≡ false

-- all that is due at a port has passed, in this order and nothing else, and no value waits there where none is due
pub record IsAsBenched (w : Wiring) (s : State) (entries : List Entry) (port : ℕ) (stream : Stream) : Type 0 where
  pub whole : IsWhole stream (passed w port entries) (ended port entries)
  pub waits_none : item_at stream (length (begun port entries)) ≡ None → port_sense w.ports port ≡ Some false
      → (came : ℕ) → phase_at s port ≡ Asked (Some came) → ⊥

-- this state was there after so many entries, so that what was done since can be done again and again
abbrev pub WasAfter : Wiring → State → List Entry → ℕ → Type 0
WasAfter w s entries from = Run w (opening w) (take from entries) s

-- no word of a port would be done, whichever groups have begun; or after so many entries a handshake began there
abbrev pub IsServed : Wiring → State → List Entry → ℕ → ℕ → Stream → Type 0
IsServed w s entries from port stream =
    IsStill w s entries (group_of stream (length (begun port entries))) port stream ⊎ (0 < length (begun port (drop from entries)))

-- Nothing moves any more, and no word would be done; or all goes on as it did since this state was there before, and each port that
-- has a word had one since.
pub record IsSettled (w : Wiring) (s : State) (entries : List Entry) (streams : List Stream) : Type 0 where
  pub from : ℕ
  pub rest : Rest w.sites s
  pub was : WasAfter w s entries from
  pub served : OfEach streams (IsServed w s entries from)

-- whether the net gives values at a port of this kind and sense
abbrev pub gives : Option Chan → Option Bool → Bool
gives None passive = false
gives (Some chan) passive = by chan.kind passive
  where
    by : ChanKind → Option Bool → Bool
    by Sync passive = false
    by Push (Some false) = true
    by Push passive = false
    by Pull (Some true) = true
    by Pull passive = false

-- no value that comes is wrong: there is a port at which the net gives values, and at each of those any may come without end
pub record NoneIsWrong (w : Wiring) (streams : List Stream) : Type 0 where
  pub some : OfSome streams (λ port stream. stream.forever ≡ Some Any)
  pub each : OfEach streams (λ port stream. gives (channel w.chans port) (port_sense w.ports port) ≡ true → stream.forever ≡ Some Any)

-- the net goes round for ever, by its own moves and the words of the bench
abbrev pub GoesRound : Wiring → State → List Entry → ℕ → Type 0
GoesRound w s entries from = (from < length entries) × WasAfter w s entries from

-- nothing else comes: the play is settled, no value that comes could be wrong, or the net goes round, as the bench says it may
abbrev pub IsAtEnd : Wiring → State → List Entry → List Stream → Bool → Type 0
IsAtEnd w s entries streams spins =
    IsSettled w s entries streams ⊎ (NoneIsWrong w streams ⊎ ((spins ≡ true) × ((from : ℕ) × GoesRound w s entries from)))

abbrev pub Judges : Wiring → State → List Entry → List Stream → Bool → Verdict → Type 0
Judges w s entries streams spins Passed = OfEach streams (IsAsBenched w s entries) × IsAtEnd w s entries streams spins
Judges w s entries streams spins (Differs port place due came) =
    (stream : Stream) × (numbered streams port ≡ Some stream) × DiffersAt stream (passed w port entries) place due came
Judges w s entries streams spins (Extra port came) =
    (stream : Stream) × (numbered streams port ≡ Some stream)
    × (item_at stream (length (begun port entries)) ≡ None) × (phase_at s port ≡ Asked (Some came))
Judges w s entries streams spins (Stuck group) =
    Rest w.sites s × OfSome streams (IsShort entries group) × OfEach streams (IsStill w s entries group)
Judges w s entries streams spins (Spins from group) = GoesRound w s entries from
Judges w s entries streams spins Spent = ⊤
