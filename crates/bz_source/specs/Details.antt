-- What the parameters of a component say to people.
use Rattle.std.specs.Prelude.{ℕ, ◌%◌, ◌^◌, ◌++◌, List, [], ◌∷◌, Bool, true, false, Option, None, Some, codes, decimal, if◌then◌else◌}
use Rattle.std.specs.Option.{option_map, option_and_then}
use Rattle.bz_model.specs.Names.{numbered}
use Rattle.bz_model.specs.Traces.{name_form}
use Rattle.bz_model.specs.declared.kind.Kind.{Kind}
use Rattle.bz_breeze_records.specs.declared.part.Part.{Part}
use Rattle.bz_breeze_records.specs.declared.part.Component.{Component}
use Rattle.bz_breeze_records.specs.declared.part.Slot.{Slot}
use Rattle.bz_breeze_records.specs.declared.part.Slot.TheVariants.{One, Many}
use Rattle.bz_kind_rows.specs.Naming.{named, text}
use Rattle.bz_model.specs.declared.kind.KindName.{KindName}
use Rattle.bz_model.specs.declared.kind_rules.DetailRule.{DetailRule}
use Rattle.bz_model.specs.declared.kind_rules.DetailRule.TheVariants as rule
use Rattle.bz_model.specs.Rows.{rows, kind_name, number_of, operand_width}

abbrev pub is_variable_name : Option KindName → Bool
is_variable_name (Some name) = (rows name).is_variable
is_variable_name None = false

abbrev pub is_variable : List ℕ → Bool
is_variable name = is_variable_name (named name)

-- a text with a letter in it
abbrev pub if_any : List ℕ → Option (List ℕ)
if_any [] = None
if_any (b ∷ bs) = Some (b ∷ bs)

-- the first text among a variable's parameters, where it isn't empty
abbrev pub variable_name : Component → Option (List ℕ)
variable_name c = if is_variable c.name.items then option_and_then if_any (text c.params.items 0) else None

-- What else the parameters say: a word, a word with a second operand, a number, or a bit.
pub data Detail : Type 0 where
  word : List ℕ → Detail
  applied : List ℕ → ℕ → Detail
  number : ℕ → Detail
  from_bit : ℕ → Detail

-- the width of the channel of the first entry
abbrev pub slot_width : Part → Option Slot → ℕ
slot_width part (Some (One chan)) = elim (numbered part.channels.items chan) [ None ↦ 0 | Some c ↦ c.width ]
slot_width part other = 0

abbrev pub first_slot : List Slot → Option Slot
first_slot [] = None
first_slot (s ∷ ss) = Some s

abbrev pub first_width : Part → Component → ℕ
first_width part c = slot_width part (first_slot c.entries.items)

-- an operation, a specification, the second operand in its width, the value of a constant in the width of its channel
abbrev pub detail_by : DetailRule → Part → Component → Kind → Option Detail
detail_by rule.Nothing part c kind = None
detail_by rule.Text part c kind = option_map word (text c.params.items 0)
detail_by rule.Applied part c kind = option_map (λ w. applied w (number_of kind % 2 ^ operand_width kind)) (text c.params.items 0)
detail_by rule.Constant part c kind = Some (number (number_of kind % 2 ^ first_width part c))
detail_by rule.Low part c kind = Some (from_bit (number_of kind))

abbrev pub comp_detail : Part → Component → Kind → Option Detail
comp_detail part c kind = detail_by (rows (kind_name kind)).detail part c kind

abbrev pub detail_text : Detail → List ℕ
detail_text (word w) = name_form w
detail_text (applied w n) = name_form w ++ (codes " " ++ decimal n)
detail_text (number n) = decimal n
detail_text (from_bit n) = codes "from bit " ++ decimal n
