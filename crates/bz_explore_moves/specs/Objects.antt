-- What can come next, as members of objects of JSON.
use Rattle.std.specs.Prelude.{◌≡◌, ℕ, Bool, Option, Some, None, List, [], ◌++◌, codes, decimal, unwrap_or, if◌then◌else◌}
use Rattle.std.specs.List.{join_by}
use Rattle.bz_model.specs.Hosts.{wants_value}
use Rattle.bz_model.specs.Names.{port_name}
use Rattle.bz_model.specs.Nets.{Site, State, Wiring}
use Rattle.bz_model.specs.Traces.{move_text, verb_text}
use Rattle.bz_text.specs.Json.{json_text}
use Rattle.bz_explore_net.specs.declared.host_offers.HostOffer.{HostOffer}
use Rattle.bz_explore_net.specs.declared.offers.Offer.{Offer}
use Rattle.bz_explore_net.specs.HostOffers.{HostOffers}
use Rattle.bz_explore_net.specs.Offers.{Offers}
use Rattle.bz_view.specs.Naming.{typed_text}
use Rattle.bz_view.specs.Outside.{kind_at, kind_of}

-- a text of each of these, with a comma and a blank between
abbrev pub listed : {X : Type 0} → (X → List ℕ) → List X → List ℕ
listed text_of xs = join_by text_of (codes ", ") xs

-- a value as a string, behind other members, where there is one
abbrev pub value_member : Option ℕ → List ℕ
value_member (Some value) = codes ", \"value\": \"" ++ (decimal value ++ codes "\"")
value_member None = []

-- a move: its component with the kind, its port, the channel, and its value where it carries one
abbrev pub move_members : List Site → Offer → List ℕ
move_members sites o =
    codes "\"component\": " ++ (decimal o.comp ++ (codes ", \"kind\": " ++ (json_text (kind_of sites o.comp) ++ (codes ", \"port\": " ++ (decimal o.port
    ++ (codes ", \"move\": " ++ (json_text (move_text o.mv) ++ (codes ", \"channel\": " ++ (decimal o.chan ++ value_member o.value)))))))))

abbrev pub move_object : List Site → Offer → List ℕ
move_object sites o = codes "{" ++ (move_members sites o ++ codes "}")

-- a word of the host, and its port as it is typed
abbrev pub word_members : Wiring → HostOffer → List ℕ
word_members w o = codes "\"word\": " ++ (json_text (verb_text o.verb) ++ (codes ", \"port\": " ++ json_text (typed_text (unwrap_or (port_name w.ports o.port) []))))

abbrev pub flag_text : Bool → List ℕ
flag_text flag = if flag then codes "true" else codes "false"

-- and whether a value belongs to it
abbrev pub word_object : Wiring → HostOffer → List ℕ
word_object w o =
    codes "{" ++ (word_members w o ++ (codes ", \"needs_value\": " ++ (flag_text (wants_value o.verb (kind_at w.chans o.port)) ++ codes "}")))

abbrev pub next_members : Wiring → List Offer → List HostOffer → List ℕ
next_members w offers words = codes ", \"moves\": [" ++ (listed (move_object w.sites) offers ++ (codes "], \"words\": [" ++ (listed (word_object w) words ++ codes "]")))

-- An object for each move that a component can make, then one for each word of the host that would be answered, both in their order,
-- and no other.
pub record IsNext (w : Wiring) (s : State) (text : List ℕ) : Type 0 where
  pub offers : List Offer
  pub words : List HostOffer
  pub can_be_made : Offers w.sites s offers
  pub are_answered : HostOffers w s words
  pub whole : text ≡ next_members w offers words
