-- All that is wrong with the ends of a net's channels.
use Rattle.std.specs.Prelude.{◌≡◌, ◌≢◌, ◌+◌, ◌-◌, ◌<◌, ◌≤◌, ◌++◌, ⊤, ℕ, Bool, false, true, not, None, Some, List, length, map, is_some}
use Rattle.std.specs.List.{All, AllPairs, Contains}
use Rattle.bz_model.specs.Names.{External}
use Rattle.bz_model.specs.Nets.{Site}
use Rattle.bz_flat.specs.declared.flat.Ends.{Ends}
use Rattle.bz_flat.specs.declared.error.ElabError.{ElabError}
use Rattle.bz_flat.specs.declared.error.ElabError.TheVariants.{TwoEnds, LooseEnd, PortSense}
use Rattle.bz_model.specs.Hosts.{port_is_passive}
use Rattle.bz_flat.specs.Wires.{HasTwo, IsLoose, IsMisused, IsEnd, IsFoundAt, end_at, end_port_at}
use Rattle.bz_elab.specs.Numbers.{is_marked}
use Rattle.bz_elab.specs.Order.{NoLater}

-- a refusal is of the ends of a channel
abbrev pub IsOfEnds : ElabError → Type 0
IsOfEnds (TwoEnds k) = ⊤
IsOfEnds (LooseEnd k) = ⊤
IsOfEnds (PortSense k) = ⊤
IsOfEnds e = ⊥

-- it applies to a net of these components and external ports
abbrev pub IsEndFault : List Site → List External → ElabError → Type 0
IsEndFault sites ports (TwoEnds k) = HasTwo sites k
IsEndFault sites ports (LooseEnd k) = IsLoose sites ports k
IsEndFault sites ports (PortSense k) = IsMisused sites ports k
IsEndFault sites ports e = ⊥

-- e is looked for before q
abbrev pub Sooner : ElabError → ElabError → Type 0
Sooner e q = NoLater e q × (e ≢ q)

-- the refusals of which P holds, each once, in the order of refusals
pub record AreAll (P : ElabError → Type 0) (es : List ElabError) : Type 0 where
  pub sound : All P es
  pub whole : (e : ElabError) → P e → Contains es e
  pub order : AllPairs Sooner es

-- the numbers of which P holds, each once, rising
pub record AreThose (P : ℕ → Type 0) (ks : List ℕ) : Type 0 where
  pub sound : All P ks
  pub whole : (k : ℕ) → P k → Contains ks k
  pub rise : AllPairs (λ j k. j < k) ks

-- what was added to a list is the refusal of each number of which P holds
abbrev pub Adds : (ℕ → ElabError) → (ℕ → Type 0) → List ElabError → List ElabError → Type 0
Adds refusal P old new = (ks : List ℕ) × (new ≡ old ++ map refusal ks) × AreThose P ks

-- one end of channel k stands in the table, and no other
abbrev pub HasOne : List Ends → ℕ → Type 0
HasOne ends k = is_some (end_at ends k false) ≡ is_some (end_at ends k true) → ⊥

-- which are added of each sort: a channel that is marked; one beyond the ports with one end alone; a port with a component at
-- the host's end
abbrev pub TwoAt : List Bool → ℕ → Type 0
TwoAt doubled k = (0 < k) × (is_marked doubled (k - 1) ≡ true)

abbrev pub OneAt : ℕ → List Ends → ℕ → Type 0
OneAt ports ends k = (ports < k) × HasOne ends k

abbrev pub HostAt : List External → List Ends → ℕ → Type 0
HostAt ports ends k = (0 < k) × (k ≤ length ports) × (end_at ends k (not (port_is_passive ports k)) ≢ None)

-- at an end of channel k stands another port than port p of component c
abbrev pub HasOther : List Ends → ℕ → Bool → ℕ → ℕ → Type 0
HasOther ends k side c p = (end_at ends k side ≢ None) × (IsFoundAt ends c p k side → ⊥)

-- what stands in the table is an end
abbrev pub AreEnds : List Site → List Ends → Type 0
AreEnds sites ends = (k c : ℕ) (side : Bool) → 0 < k → end_at ends k side ≡ Some c → (p : ℕ) × (end_port_at ends k side ≡ p) × IsEnd sites k side c p

-- what is marked has two ends of one sense, the mark of channel k + 1 standing behind k others
abbrev pub AreDoubled : List Site → List Bool → Type 0
AreDoubled sites marks = (k : ℕ) → is_marked marks k ≡ true → HasTwo sites (k + 1)

-- a channel is marked where an end of the ports in `Seen` isn't the one in the table
abbrev pub AreMarked : List Site → (ℕ → ℕ → Type 0) → List Ends → List Bool → Type 0
AreMarked sites Seen ends marks = (k c p : ℕ) (side : Bool) → Seen c p → IsEnd sites (k + 1) side c p → HasOther ends (k + 1) side c p → is_marked marks k ≡ true
