-- Names and words of the host as they are typed.
use Rattle.std.specs.Prelude.{ℕ, ◌==◌, Bool, List, [], ◌∷◌, ◌++◌, codes, if◌then◌else◌}
use Rattle.std.specs.List.{flat_map}
use Rattle.bz_model.specs.declared.event.Verb.{Verb}
use Rattle.bz_model.specs.Traces.{name_form, verb_text}

-- in name form, but `#` by its number too
abbrev pub typed_byte : ℕ → List ℕ
typed_byte b = if b == 35 then codes "%23" else name_form (b ∷ [])

abbrev pub typed_text : List ℕ → List ℕ
typed_text [] = codes "%"
typed_text (b ∷ name) = flat_map typed_byte (b ∷ name)

-- a verb and a port's name, with `V` for the value where one belongs to it
abbrev pub word_text : Verb → List ℕ → Bool → List ℕ
word_text verb name has_value = verb_text verb ++ (codes ":" ++ (typed_text name ++ (if has_value then codes ":V" else [])))
