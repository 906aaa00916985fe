-- Files of the source in the rows of a page.
use Rattle.std.specs.Prelude.{ℕ, List, ◌++◌, codes}
use Rattle.std.specs.List.{flat_map}
use Rattle.bz_model.specs.Traces.{name_form}
use Rattle.bz_source.specs.FileLines.{lines_of}
use Rattle.bz_source.specs.declared.file.SourceFile.{SourceFile}

abbrev pub text_row : List ℕ → List ℕ
text_row line = codes "text " ++ (line ++ codes "\n")

-- the row of a file's name, in name form
abbrev pub name_row : List ℕ → List ℕ
name_row name = codes "source " ++ (name_form name ++ codes "\n")

-- a file: its name, and each of its lines
abbrev pub file_rows : SourceFile → List ℕ
file_rows file = name_row file.name.items ++ flat_map text_row (lines_of file.text.items)

abbrev pub files_rows : List SourceFile → List ℕ
files_rows files = flat_map file_rows files
