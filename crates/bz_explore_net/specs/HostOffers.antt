-- The host words that would be answered in a state of a net.
use Rattle.std.specs.Prelude.{◌≡◌, ◌≢◌, ℕ, ◌<◌, ◌≤◌, Bool, true, false, Option, MatchOption, List, Contains, length}
use Rattle.std.specs.List.{All, AllPairs}
use Rattle.bz_model.specs.declared.event.Verb.{Verb}
use Rattle.bz_model.specs.declared.event.Verb.TheVariants.{Offer, Collect, Accept, Answer, Watch}
use Rattle.bz_model.specs.Hosts.{fits_side, port_is_passive}
use Rattle.bz_model.specs.Nets.{Wiring, State}
use Rattle.bz_net.specs.Answering.{would_answer}
use Rattle.bz_explore_net.specs.declared.host_offers.HostOffer.{HostOffer}

-- the host may give this word at a port of this sense, and would be answered by none of busy, not yet and not taken; to watch
-- is left out, since it is answered always
pub record IsAnswer (s : State) (port : ℕ) (passive : Bool) (verb : Verb) : Type 0 where
  pub moves : verb ≢ Watch
  pub side : fits_side verb passive ≡ true
  pub answer : would_answer s verb port ≡ true

-- the same at one of the first n external ports
pub record IsHostOffer (w : Wiring) (s : State) (n : ℕ) (o : HostOffer) : Type 0 where
  pub from : 0 < o.port
  pub to : o.port ≤ n
  pub answered : IsAnswer s o.port (port_is_passive w.ports o.port) o.verb

abbrev pub Precedes : HostOffer → HostOffer → Type 0
Precedes a b = a.port < b.port

-- Of the first n external ports: each word would be answered, each that would be is told, and none twice.
pub record HostOffersUpTo (w : Wiring) (s : State) (n : ℕ) (offers : List HostOffer) : Type 0 where
  pub each : All (IsHostOffer w s n) offers
  pub all : (o : HostOffer) → IsHostOffer w s n o → Contains offers o
  pub once : AllPairs Precedes offers

abbrev pub HostOffers : Wiring → State → List HostOffer → Type 0
HostOffers w s offers = HostOffersUpTo w s (length w.ports) offers

-- the word that begins what the host does at a port of this sense, and the one that ends it
abbrev pub begins : Bool → Verb
begins true = Offer
begins false = Accept

abbrev pub ends : Bool → Verb
ends true = Collect
ends false = Answer

-- the one word that would be answered, if one would be
abbrev pub IsSoleAnswer : State → ℕ → Bool → Option Verb → Type 0
IsSoleAnswer s port passive o = MatchOption o
    ((u : Verb) → IsAnswer s port passive u → ⊥)
    (λ v. IsAnswer s port passive v × ((u : Verb) → IsAnswer s port passive u → u ≡ v))
