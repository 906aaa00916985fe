-- What `moves` writes: what can come next in a state of a net.
use Rattle.std.specs.Prelude.{◌≡◌, ℕ, zero, suc, List, [], ◌++◌, length, codes, decimal, unwrap_or}
use Rattle.bz_model.specs.declared.event.Verb.{Verb}
use Rattle.bz_model.specs.Hosts.{wants_value}
use Rattle.bz_model.specs.Names.{port_name}
use Rattle.bz_model.specs.Nets.{State, Wiring}
use Rattle.bz_model.specs.Traces.{move_text, value_text}
use Rattle.bz_text.specs.Saying.{count_text}
use Rattle.bz_explore_net.specs.declared.host_offers.HostOffer.{HostOffer}
use Rattle.bz_explore_net.specs.declared.offers.Offer.{Offer}
use Rattle.bz_explore_net.specs.HostOffers.{HostOffers}
use Rattle.bz_explore_net.specs.Offers.{Offers}
use Rattle.bz_view.specs.Lines.{AreBlanks, InTurn, IsLine}
use Rattle.bz_view.specs.Naming.{word_text}
use Rattle.bz_view.specs.Outside.{kind_at}

-- the words that fire a component at a port, and behind blanks the move, its channel and its value as a trace tells them
abbrev pub IsMove : Offer → List ℕ → Type 0
IsMove o text = (blanks : List ℕ) × AreBlanks blanks
    × (text ≡ codes "fire " ++ (decimal o.comp ++ (codes " " ++ (decimal o.port ++ (blanks ++ (move_text o.mv ++ (codes " " ++ (decimal o.chan ++ value_text o.value))))))))

abbrev pub IsMoveLine : Offer → List ℕ → Type 0
IsMoveLine o line = (front : List ℕ) × IsMove o front × IsLine front line

-- a word at an external port, as the host types it
abbrev pub host_word : Wiring → Verb → ℕ → List ℕ
host_word w verb port = word_text verb (unwrap_or (port_name w.ports port) []) (wants_value verb (kind_at w.chans port))

abbrev pub IsWordLine : Wiring → HostOffer → List ℕ → Type 0
IsWordLine w o line = IsLine (host_word w o.verb o.port) line

-- how many moves there are
abbrev pub end_line : ℕ → List ℕ
end_line zero = codes "no component can move\n"
end_line (suc n) = count_text (suc n) (codes "move") ++ codes "\n"

-- A line for each move that a component can make, then one for each word of the host that would be answered, both in their order,
-- and no other line but the last.
pub record IsMoves (w : Wiring) (s : State) (text : List ℕ) : Type 0 where
  pub offers : List Offer
  pub words : List HostOffer
  pub can_be_made : Offers w.sites s offers
  pub are_answered : HostOffers w s words
  pub moves : List ℕ
  pub answers : List ℕ
  pub are_moves : InTurn IsMoveLine offers moves
  pub are_answers : InTurn (IsWordLine w) words answers
  pub whole : text ≡ moves ++ (answers ++ end_line (length offers))
