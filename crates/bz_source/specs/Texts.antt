-- The text that tells where a record stands, and the line of a component.
use Rattle.std.specs.Prelude.{ℕ, List, ◌++◌, codes, decimal}
use Rattle.std.specs.List.{flat_map}
use Rattle.bz_model.specs.Nets.{Site}
use Rattle.bz_model.specs.Words.{spaced}
use Rattle.bz_model.specs.Rows.{kind_word}
use Rattle.bz_text.specs.Pieces.{place_text}

-- where a record stands: the name of its part, its position there, its line, and its path from the top
pub record LineAt : Type 0 where
  pub part : List ℕ
  pub position : ℕ
  pub line : ℕ
  pub path : List ℕ

abbrev pub at_text : LineAt → List ℕ
at_text s = place_text s.part s.position s.line s.path

-- component k: its kind, its channels in the order of its ports, and where it stands
abbrev pub placed_comp_text : ℕ → Site → LineAt → List ℕ
placed_comp_text k site s = codes "component " ++ (decimal k ++ (codes " " ++ (kind_word site.kind ++ (flat_map spaced site.chans ++ at_text s))))
