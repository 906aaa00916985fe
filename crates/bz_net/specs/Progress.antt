-- What contracts see of a net that keeps no journal. Whoever plays it may keep one: then it is a net with that journal.
use Rattle.std.specs.Prelude.{◌≡◌, ℕ, Bool, ◌+◌, ◌≤◌, ⊤, Option, Some, None, List, [], ◌∷◌, ◌++◌, length, Contains, ◌↔◌}
use Rattle.bz_model.specs.declared.event.NetError.{NetError}
use Rattle.bz_model.specs.declared.event.NetError.TheVariants.{JournalFull}
use Rattle.bz_model.specs.declared.event.Verb.{Verb}
use Rattle.bz_model.specs.declared.event.Who.{Who}
use Rattle.bz_model.specs.declared.event.Entry.{Entry}
use Rattle.bz_model.specs.declared.event.Entry.TheVariants.{Fired, Host, Rested}
use Rattle.bz_model.specs.Nets.{Wiring, State, opening}
use Rattle.bz_model.specs.Hosts.{refusal_at}
use Rattle.bz_model.specs.Runs.{CanStep, IsNext, Run}
use Rattle.bz_model.specs.Clashes.{ClashesIn}
use Rattle.bz_flat.specs.Wires.{WellWired}
use Rattle.bz_net.specs.declared.event.RestReply.{RestReply}
use Rattle.bz_net.specs.declared.event.RestReply.TheVariants as asked
use Rattle.bz_net.specs.Noted.{Notes, Watches}
use Rattle.bz_net.specs.Replies.{IsFiring, IsSoleStep}
use Rattle.bz_net.specs.Simulation.{Simulation, Adds}
use Rattle.bz_net.specs.Told.{MovesAt}

-- `clashed` are the components at which requests met so far, `left` is how many entries the limit still lets in, `listed` whether
-- those components were listed since the last of them
pub record Progress : Type 0 where
  pub wiring : Wiring
  pub state : State
  pub clashed : List ℕ
  pub left : ℕ
  pub listed : Bool

-- the net with this journal; the entries that are still let in need no memory of it
abbrev pub with_journal : Progress → List Entry → Simulation
with_journal p journal = record { wiring = p.wiring; state = p.state; journal = journal; limit = length journal + p.left; room = p.left }

-- the journal tells the run from the opening to where the net is, and what is noted are the clashes of that run
pub record IsToldBy (p : Progress) (journal : List Entry) : Type 0 where
  pub run : Run p.wiring (opening p.wiring) journal p.state
  pub clashed : (c : ℕ) → Contains p.clashed c ↔ ClashesIn p.wiring (opening p.wiring) journal c

-- a journal that tells of the old net tells of the new one with these entries behind it
abbrev pub LeadsOn : Progress → List Entry → Progress → Type 0
LeadsOn old entries new = (journal : List Entry) → IsToldBy old journal → IsToldBy new (journal ++ entries)

-- an event made this entry, whatever journal is kept
pub record Enters (old : Progress) (entry : Entry) (new : Progress) : Type 0 where
  pub adds : (journal : List Entry) → Adds (with_journal old journal) entry (with_journal new (journal ++ entry ∷ []))
  pub leads : LeadsOn old (entry ∷ []) new

-- the answer to the question whether any component can move: none, which is an entry, or the least that can, and nothing changes
abbrev pub EntersRest : Progress → Progress → Who → RestReply → Type 0
EntersRest old new who asked.Rest = Enters old (Rested who) new
EntersRest old new who (asked.Ready c) = IsNext (CanStep old.wiring.sites old.state) 1 c × (new ≡ old)

-- why a host command at external port number `port` is refused
abbrev pub RefusesAt : Progress → Verb → ℕ → Option ℕ → NetError → Type 0
RefusesAt old verb port value JournalFull = (refusal_at old.wiring verb port value ≡ None) × (old.left ≡ 0)
RefusesAt old verb port value e = refusal_at old.wiring verb port value ≡ Some e

-- the entry tells the one step that component c had at the port that is given, or at the lowest where it could move
abbrev pub FiresAt : Progress → Progress → Who → ℕ → Option ℕ → Entry → Type 0
FiresAt old new who c at entry = (p : ℕ) × MovesAt old.wiring.sites old.state c at p × IsFiring who c p entry × IsSoleStep (with_journal old []) (with_journal new []) who c p entry

-- the number of the component that moved is at most so many
abbrev pub IsOneOf : ℕ → Entry → Type 0
IsOneOf count (Fired who c p k mv value) = c ≤ count
IsOneOf count (Host who verb port value reply) = ⊤
IsOneOf count (Rested who) = ⊤

-- what such a net keeps
pub record PlaysWell (w : Wiring) (s : State) (notes : Notes) : Type 0 where
  pub wired : WellWired w
  pub most : notes.most ≡ length w.sites
  pub watches : Watches w.sites s.phases notes
