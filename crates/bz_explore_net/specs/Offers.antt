-- The moves that can be made in a state of a net.
use Rattle.std.specs.Prelude.{◌≡◌, ◌⊎◌, ℕ, ◌<◌, List, Contains}
use Rattle.std.specs.List.{All, AllPairs}
use Rattle.bz_model.specs.Nets.{Site, State, Step, StepsAt}
use Rattle.bz_explore_net.specs.declared.offers.Offer.{Offer}

-- what is offered is a step of the state
abbrev pub IsOffer : List Site → State → Offer → Type 0
IsOffer sites s o = (next : State) × Step sites s o.comp o.port o.chan o.mv o.value next

-- an offer stands before port p of component c: components come by number, and the ports of one by number
abbrev pub IsBefore : ℕ → ℕ → Offer → Type 0
IsBefore c p o = (o.comp < c) ⊎ ((o.comp ≡ c) × (o.port < p))

abbrev pub Precedes : Offer → Offer → Type 0
Precedes a b = IsBefore b.comp b.port a

-- a step of component c at port p is among the offers
abbrev pub IsOffered : List Offer → ℕ → ℕ → Type 0
IsOffered offers c p = (o : Offer) × Contains offers o × (o.comp ≡ c) × (o.port ≡ p)

-- Each is a step of the state, each port at which a component has a step is told, and no port twice: they come in order.
pub record Offers (sites : List Site) (s : State) (offers : List Offer) : Type 0 where
  pub each : All (IsOffer sites s) offers
  pub all : (c p : ℕ) → StepsAt sites s c p → IsOffered offers c p
  pub once : AllPairs Precedes offers

-- the same of the steps that stand before port p of component c
pub record OffersUpTo (sites : List Site) (s : State) (c p : ℕ) (offers : List Offer) : Type 0 where
  pub each : All (IsOffer sites s) offers
  pub all : (d q : ℕ) → StepsAt sites s d q → (d < c) ⊎ ((d ≡ c) × (q < p)) → IsOffered offers d q
  pub once : AllPairs Precedes offers
  pub before : All (IsBefore c p) offers
