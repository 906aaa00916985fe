-- The pieces of a line, as they are handed to the writer.
use Rattle.std.specs.Prelude.{ℕ, List, [], ◌∷◌, ◌++◌, codes, decimal}
use Rattle.std.specs.List.{flat_map}
use Rattle.bz_model.specs.Traces.{value_text, name_form}
use Rattle.bz_model.specs.Words.{carried_text, spaced}
use Rattle.bz_text.specs.FileNames.{file_text}
use Rattle.bz_text.specs.Json.{json_text}
use Rattle.bz_text.specs.declared.pieces.Atom.{Atom}
use Rattle.bz_text.specs.declared.pieces.Atom.TheVariants as atom
use Rattle.bz_text.specs.declared.pieces.Piece.{Piece}
use Rattle.bz_text.specs.declared.pieces.Piece.TheVariants as piece

abbrev pub slashed : ℕ → List ℕ
slashed n = codes "/" ++ decimal n

abbrev pub stepped : ℕ → List ℕ
stepped n = decimal n ++ codes "/"

-- positions from the top on, with a slash between
abbrev pub path_text : List ℕ → List ℕ
path_text [] = []
path_text (i ∷ is) = decimal i ++ flat_map slashed is

-- the instance that something is in, where it is in one
abbrev pub in_text : List ℕ → List ℕ
in_text [] = []
in_text (i ∷ is) = codes " in " ++ path_text (i ∷ is)

-- the part, the position in it and the line
abbrev pub record_text : List ℕ → ℕ → ℕ → List ℕ
record_text part position line = codes " at " ++ (name_form part ++ (codes " " ++ (decimal position ++ (codes " line " ++ decimal line))))

abbrev pub place_text : List ℕ → ℕ → ℕ → List ℕ → List ℕ
place_text part position line path = record_text part position line ++ in_text path

-- a file and the place in it
abbrev pub source_text : List ℕ → ℕ → ℕ → List ℕ
source_text file line column = name_form file ++ (codes ":" ++ (decimal line ++ (codes ":" ++ decimal column)))

abbrev pub atom_text : Atom → List ℕ
atom_text (atom.Bytes bytes) = bytes.now
atom_text (atom.Number n) = decimal n
atom_text (atom.Name name) = name_form name.now

abbrev pub piece_text : Piece → List ℕ
piece_text (piece.Bytes bytes) = bytes.now
piece_text (piece.Number n) = decimal n
piece_text (piece.Value value) = value_text value
piece_text (piece.Name name) = name_form name.now
piece_text (piece.Carried chan) = carried_text chan.kind chan.width
piece_text (piece.Port comp port) = decimal comp ++ (codes "." ++ decimal port)
piece_text (piece.Spaced numbers) = flat_map spaced numbers.now
piece_text (piece.Path path) = path_text path.now
piece_text (piece.Steps path) = flat_map stepped path.now
piece_text (piece.At part position line path) = place_text part.now position line path.now
piece_text (piece.Called name) = codes " name " ++ name_form name.now
piece_text (piece.From file line column) = codes " from " ++ source_text file.now line column
piece_text (piece.File name) = file_text name.now
piece_text (piece.Json text) = json_text text.now
