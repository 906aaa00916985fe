-- What lines and JSON are put together from. A field is a word of a line, or a member of an object: JSON has a text in front of it.
use Rattle.std.specs.Prelude.{ℕ, suc, ◌+◌, Bool, true, List, [], ◌++◌, codes, decimal, if◌then◌else◌}
use Rattle.bz_model.specs.declared.kind_rules.ParamPlace.{ParamPlace}
use Rattle.bz_model.specs.declared.kind_rules.ParamPlace.TheVariants as at
use Rattle.bz_cli_input.specs.Listing.{lines}

-- what stands between fields: in a line, or in JSON
abbrev pub mark : Bool → List ℕ → List ℕ → List ℕ
mark is_json line json = if is_json then json else line

-- in JSON a comma stands in front of what isn't the first of a list, which has number 1
abbrev pub comma : Bool → ℕ → List ℕ
comma true (suc (suc k)) = codes ", "
comma is_json k = []

abbrev pub listed : {X : Type 0} → (ℕ → X → List ℕ) → Bool → List X → List ℕ
listed f is_json xs = lines (λ k x. comma is_json k ++ f k x) 1 xs

abbrev pub field : Bool → List ℕ → List ℕ → List ℕ
field is_json before value = mark is_json (codes " ") before ++ (value ++ mark is_json [] (codes "\""))

-- the place of a parameter: a letter for its shape, and its number among those of that shape, from 1
abbrev pub numbered : List ℕ → ℕ → List ℕ
numbered letter place = letter ++ decimal (place + 1)

abbrev pub place_text : ParamPlace → List ℕ
place_text (at.Number place) = numbered (codes "n") place
place_text (at.Flag place) = numbered (codes "t") place
place_text (at.Text place) = numbered (codes "x") place
place_text at.LastText = codes "x-last"

abbrev pub place_field : Bool → List ℕ → ParamPlace → List ℕ
place_field is_json before place = field is_json before (place_text place)
