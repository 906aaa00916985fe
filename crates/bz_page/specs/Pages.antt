-- What a page is: a template, with three texts in it.
use Rattle.std.specs.Prelude.{ℕ, List, [], ◌∷◌}
use Rattle.std.specs.List.{concat}
use Rattle.bz_page.specs.declared.around.Template.{Template}
use Rattle.bz_page.specs.Escaping.{escaped}

-- what stands around the three texts
pub record Blank : Type 0 where
  pub head : List ℕ
  pub before_rows : List ℕ
  pub before_trace : List ℕ
  pub tail : List ℕ

abbrev pub blank : List ℕ → List ℕ → List ℕ → List ℕ → Blank
blank head before_rows before_trace tail = record { head = head; before_rows = before_rows; before_trace = before_trace; tail = tail }

abbrev pub blank_of : Template → Blank
blank_of t = blank t.head.now t.before_rows.now t.before_trace.now t.tail.now

-- the page of a list, rows and a trace
unfoldable pub page_text : Blank → List ℕ → List ℕ → List ℕ → List ℕ
page_text b list rows trace = concat (b.head ∷ escaped list ∷ b.before_rows ∷ escaped rows ∷ b.before_trace ∷ escaped trace ∷ b.tail ∷ [])
