-- Files of the source, added to the rows of a page line by line.
use Rattle.std.proofs.Common.{◌≡◌, ℕ, Option, None, Some, List, [], ◌∷◌, ◌++◌, refl, sym, ap, ◌∙◌, subst, append_assoc}
use Rattle.std.specs.List.{flat_map}
use Rattle.std.specs.Prelude.{IfSome}
use Rattle.std.proofs.lemmas.List.{append-nil}
use Rattle.bz_text.specs.Growing.{Grows}
use Rattle.bz_source.specs.FileLines.{lines_of}
use Rattle.bz_source.specs.declared.file.SourceFile.{SourceFile}
use Rattle.bz_page.specs.Sources.{file_rows, files_rows, text_row}
use Rattle.bz_page.proofs.Grown.{grows_nothing, grows_then}

abbrev pub text_rows : List ℕ → List ℕ
text_rows text = flat_map text_row (lines_of text)

-- all lines of a text were added but those of its rest
abbrev pub GrowsUpTo : Option (List ℕ) → Option (List ℕ) → List ℕ → List ℕ → Type 0
GrowsUpTo a b text rest = (front : List ℕ) × (text_rows text ≡ front ++ text_rows rest) × Grows a b front

pub begins : (a : Option (List ℕ)) (text : List ℕ) → GrowsUpTo a a text text
begins a text = ([], refl, grows_nothing a)

pub goes_on : (a b c : Option (List ℕ)) (text rest line behind : List ℕ) → GrowsUpTo a b text rest → lines_of rest ≡ line ∷ lines_of behind → Grows b c (text_row line) → GrowsUpTo a c text behind
goes_on a b c text rest line behind (front, is, grown) cut more = (
  front ++ text_row line,
  is ∙ ap (λ ls. front ++ flat_map text_row ls) cut ∙ sym (append_assoc front (text_row line) (text_rows behind)),
  grows_then a b c front (text_row line) grown more,
)

pub ends : (a b : Option (List ℕ)) (text rest : List ℕ) → GrowsUpTo a b text rest → rest ≡ [] → Grows a b (text_rows text)
ends a b text rest (front, is, grown) none = subst (Grows a b) (sym (is ∙ ap (λ r. front ++ text_rows r) none ∙ append-nil front)) grown

-- a text that began with nothing
pub told_is : (files : List SourceFile) (ends : List ℕ) (a b : Option (List ℕ)) → Grows (Some []) a (files_rows files) → Grows a b ends → IfSome b (λ rows. rows ≡ files_rows files ++ ends)
told_is files ends a None grown end = tt
told_is files ends a (Some rows) grown end = grows_then (Some []) a (Some rows) (files_rows files) ends grown end
