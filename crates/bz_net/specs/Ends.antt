-- What is told of the two ends of a channel.
use Rattle.std.specs.Prelude.{◌≡◌, ◌≢◌, ℕ, ◌<◌, ◌≤◌, ⊤, Bool, true, false, Option, Some, List, [], ◌∷◌, length, MatchOption}
use Rattle.bz_model.specs.declared.event.Entry.{Entry}
use Rattle.bz_model.specs.declared.event.Entry.TheVariants.{Fired, Host, Rested}
use Rattle.bz_model.specs.declared.channel.Move.{Move}
use Rattle.bz_model.specs.Nets.{Site, State, Step, Wiring}
use Rattle.bz_flat.specs.declared.flat.Ends.{Ends}
use Rattle.bz_flat.specs.Wires.{IsEnd, HasEnd, IsFoundAt, end_at}

-- a component whose port holds this end of channel k, or none where no port does
abbrev pub StandsAt : List Site → ℕ → Bool → Option ℕ → Type 0
StandsAt sites k side end = MatchOption end (HasEnd sites k side → ⊥) (λ c. (p : ℕ) × IsEnd sites k side c p)

-- the active end, then the passive one
abbrev pub TellsEnds : List Site → ℕ → List (Option ℕ) → Type 0
TellsEnds sites k (active ∷ passive ∷ []) = StandsAt sites k false active × StandsAt sites k true passive
TellsEnds sites k ends = ⊥

-- the port of component c that holds the end of channel k of this sense, or none where it holds none
abbrev pub TellsPort : List Site → ℕ → Bool → ℕ → Option ℕ → Type 0
TellsPort sites k side c port = MatchOption port ((p : ℕ) → IsEnd sites k side c p → ⊥) (IsEnd sites k side c)

-- each step of component c on channel k by this move is one at that port
abbrev pub IsSolePort : List Site → State → ℕ → ℕ → Move → Option ℕ → Type 0
IsSolePort sites s c k mv port = (p : ℕ) (value : Option ℕ) (next : State) → Step sites s c p k mv value next → port ≡ Some p

-- by the table of ends, the port of component c at this end of channel k
abbrev pub IsPortIn : List Ends → ℕ → Bool → ℕ → Option ℕ → Type 0
IsPortIn ends k side c port = MatchOption port (0 < k → end_at ends k side ≢ Some c) (λ p. (0 < k) × IsFoundAt ends c p k side)

-- the channel of a firing is one of the net
abbrev pub IsOn : Wiring → Entry → Type 0
IsOn w (Fired who c p k mv value) = (0 < k) × (k ≤ length w.chans)
IsOn w (Host who verb port value reply) = ⊤
IsOn w (Rested who) = ⊤
