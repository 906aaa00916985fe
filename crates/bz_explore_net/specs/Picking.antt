-- Moves that are picked by chance.
use Rattle.std.specs.Prelude.{◌≡◌, ◌⊎◌, ℕ, zero, suc, ◌+◌, ◌*◌, ◌%◌, ◌<◌, List, [], ◌∷◌, ◌++◌}
use Rattle.rand_pcg.specs.Lcg.{Lcg, increment_of, started}
use Rattle.rand_pcg.specs.Pcg.{multiplier_64, pcg32}
use Rattle.bz_model.specs.declared.event.Who.{Who}
use Rattle.bz_model.specs.declared.event.Entry.{Entry}
use Rattle.bz_model.specs.declared.event.Entry.TheVariants.{Fired, Host, Rested}
use Rattle.bz_model.specs.Nets.{Site, State, Step, StepsAt}
use Rattle.bz_model.specs.Runs.{CanStep}
use Rattle.bz_net.specs.declared.event.RunEnd.{RunEnd}
use Rattle.bz_net.specs.declared.event.RunEnd.TheVariants.{Rest, Spent, Refused}
use Rattle.bz_net.specs.Replies.{RefusesEntry}
use Rattle.bz_net.specs.Simulation.{Adds, Simulation}

-- Numbers are drawn from PCG's generator of 32-bit words, all on one stream, two words for each.

abbrev pub generator : ℕ → Lcg
generator state = record { state = state; increment = increment_of 64 54 }

-- what contracts see of a picker: its seed, and the state of its generator
pub record Chance : Type 0 where
  pub seed : ℕ
  pub state : ℕ

-- the state with which the picking of a seed begins
abbrev pub begun : ℕ → ℕ
begun seed = (started 64 multiplier_64 seed (increment_of 64 54)).state

-- the number that is drawn in a state: the first word is its higher half
abbrev pub drawn : ℕ → ℕ
drawn state = (pcg32 (generator state)).0 * 4294967296 + (pcg32 (pcg32 (generator state)).1).0

-- the state after it
abbrev pub after : ℕ → ℕ
after state = (pcg32 (pcg32 (generator state)).1).1.state

-- so many numbers below n are in a set
abbrev pub Below : (ℕ → Type 0) → ℕ → ℕ → Type 0
Below P zero count = count ≡ 0
Below P (suc n) count = (P n × ((less : ℕ) × (count ≡ suc less) × Below P n less)) ⊎ ((P n → ⊥) × Below P n count)

-- a member of a set, with so many members below it
abbrev pub IsPlace : (ℕ → Type 0) → ℕ → ℕ → Type 0
IsPlace P place member = P member × Below P member place

-- a set has so many members
abbrev pub HasMembers : (ℕ → Type 0) → ℕ → Type 0
HasMembers P count = (bound : ℕ) × ((k : ℕ) → P k → k < bound) × Below P bound count

-- What is picked in a state of a net and one of the picker: one of the components that can move, by the first number that is
-- drawn, and one of the ports at which it can, by the next.
pub record IsPick (sites : List Site) (s : State) (picker c p : ℕ) : Type 0 where
  pub comps : ℕ
  pub ports : ℕ
  pub comps_are : HasMembers (CanStep sites s) comps
  pub comp_is : IsPlace (CanStep sites s) (drawn picker % comps) c
  pub ports_are : HasMembers (StepsAt sites s c) ports
  pub port_is : IsPlace (StepsAt sites s c) (drawn (after picker) % ports) p

-- the entry of the move that is picked, or the note that there is none
abbrev pub IsPickedEntry : Simulation → Who → ℕ → ℕ → Entry → Type 0
IsPickedEntry net who picker picker' (Fired who' c p k mv value) =
    (who' ≡ who) × IsPick net.wiring.sites net.state picker c p × (picker' ≡ after (after picker))
IsPickedEntry net who picker picker' (Host who' verb port value reply) = ⊥
IsPickedEntry net who picker picker' (Rested who') = (who' ≡ who) × (picker' ≡ picker)

-- so many moves were made, each the one that is picked in the state to which the last one led
abbrev pub Picks : List Site → Who → State → ℕ → ℕ → List Entry → State → ℕ → Type 0
Picks sites who s picker zero entries last picker' = (entries ≡ []) × (last ≡ s) × (picker' ≡ picker)
Picks sites who s picker (suc n) [] last picker' = ⊥
Picks sites who s picker (suc n) (Fired who' c p k mv value ∷ entries) last picker' =
    (who' ≡ who) × IsPick sites s picker c p
    × ((next : State) × Step sites s c p k mv value next × Picks sites who next (after (after picker)) n entries last picker')
Picks sites who s picker (suc n) (Host who' verb port value reply ∷ entries) last picker' = ⊥
Picks sites who s picker (suc n) (Rested who' ∷ entries) last picker' = ⊥

-- so many were added to a net
pub record PlaysPicks (old new : Simulation) (who : Who) (n picker picker' : ℕ) : Type 0 where
  pub entries : List Entry
  pub journal : new.journal ≡ old.journal ++ entries
  pub picks : Picks old.wiring.sites who old.state picker n entries new.state picker'
  pub wiring : new.wiring ≡ old.wiring
  pub limit : new.limit ≡ old.limit

-- How up to `count` of them end.
abbrev pub RanByChance : Simulation → Simulation → Who → ℕ → ℕ → ℕ → RunEnd → Type 0
-- one was still due, and no component could move
RanByChance old new who count picker picker' (Rest made) =
    (made < count) × ((mid : Simulation) × PlaysPicks old mid who made picker picker' × Adds mid (Rested who) new)
RanByChance old new who count picker picker' (Spent made) = (made ≡ count) × PlaysPicks old new who made picker picker'
-- one was still due, and its entry could not be added
RanByChance old new who count picker picker' (Refused made e) =
    (made < count) × PlaysPicks old new who made picker picker' × RefusesEntry new e
