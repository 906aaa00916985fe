-- How contracts see data that are read one at a time.
use Rattle.std.specs.Prelude.{ℕ, List, [], ◌∷◌, map, Option, Some, None}
use Rattle.bz_sexpr.specs.Data as spec
use Rattle.bz_sexpr.specs.Views.{list_of, data_of, datum_view}
use Rattle.bz_sexpr.specs.Nodes.{between, unquoted, leaf_in, datum_at, forest}
use Rattle.bz_sexpr.specs.Rows.{nodes_seen}
use Rattle.bz_sexpr.specs.declared.datum.Span.{Span}
use Rattle.bz_sexpr.specs.declared.form.Form.{Form}
use Rattle.bz_sexpr.specs.declared.form.Forms.{Forms}
use Rattle.bz_sexpr.specs.declared.form.Text.{Text}
use Rattle.bz_sexpr.specs.declared.form.Leaf.{Leaf}
use Rattle.bz_sexpr.specs.declared.form.Shape.{Shape}
use Rattle.bz_sexpr.specs.declared.form.Form.TheVariants as form
use Rattle.bz_sexpr.specs.declared.form.Forms.TheVariants as forms
use Rattle.bz_sexpr.specs.declared.form.Text.TheVariants as quoting
use Rattle.bz_sexpr.specs.declared.form.Leaf.TheVariants as leaf
use Rattle.bz_sexpr.specs.declared.form.Shape.TheVariants as shape
use Rattle.bz_sexpr.specs.declared.forest.Forest.{Forest}

abbrev pub text_view : Text → List ℕ
text_view (quoting.Plain bytes) = bytes.now
text_view (quoting.Quoted raw) = unquoted raw.now

abbrev pub forms_view : Forms → List spec.Datum
forms_view (forms.Data ds) = map datum_view ds.now
forms_view (forms.Nodes f) = forest f.text.now (nodes_seen f.nodes)

abbrev pub form_view : Form → spec.Datum
form_view (form.Datum d) = datum_view d.now
form_view (form.Node f) = datum_at (leaf_in (between f.node.from f.node.to f.text.now)) f.node (forest f.text.now (nodes_seen f.inner))

abbrev pub leaf_view : Leaf → spec.Leaf
leaf_view (leaf.Num n) = spec.num n
leaf_view (leaf.Truth b) = spec.truth b
leaf_view (leaf.Text t) = spec.text (text_view t)
leaf_view (leaf.Symbol s) = spec.symbol s.now

-- a datum of this shape
abbrev pub shape_view : Shape → Span → spec.Datum
shape_view (shape.Leaf l) span = spec.leaf (leaf_view l) span
shape_view (shape.Items f) span = spec.items (data_of (forms_view f)) span

-- the data in a datum that is a list
abbrev pub items_in : spec.Datum → Option (List spec.Datum)
items_in (spec.items ds span) = Some (list_of ds)
items_in (spec.leaf l span) = None

-- a number and a symbol that are pieces of a text
abbrev pub number_at : ℕ → Span → spec.Datum
number_at n span = spec.leaf (spec.num n) span

abbrev pub symbol_at : List ℕ → Span → spec.Datum
symbol_at s span = spec.leaf (spec.symbol s) span

-- the first datum and those behind it, where there is one
abbrev pub first_and_rest : Option (Form × Forms) → List spec.Datum
first_and_rest None = []
first_and_rest (Some p) = form_view p.0 ∷ forms_view p.1

-- the data of a text
abbrev pub forest_view : Forest → List spec.Datum
forest_view f = forest f.text.now f.nodes
