-- Data laid out as the nodes of a text, and the data that nodes stand for.
use Rattle.std.specs.Prelude.{ℕ, ◌-◌, ◌==◌, List, [], ◌∷◌, ◌++◌, length, take, drop, Option, Some, None, if◌then◌else◌}
use Rattle.bz_sexpr.specs.Bytes.{open_paren, quote, backslash, kept, is_number, decimal_value}
use Rattle.bz_sexpr.specs.Data.{Leaf, num, text, symbol, leaf_of, Datum, leaf, items, Data, none, more}
use Rattle.bz_sexpr.specs.Views.{list_of, data_of}
use Rattle.bz_sexpr.specs.declared.datum.Span.{Span}
use Rattle.bz_sexpr.specs.declared.node.Node.{Node}

-- A datum's own node, and behind it the nodes of the data in it.
abbrev mutual
  pub nodes_of : Datum → List Node
  nodes_of (leaf l span) = record { from = span.from; to = span.to; size = 0; count = 0 } ∷ []
  nodes_of (items ds span) = record { from = span.from; to = span.to; size = length (nodes_in ds); count = length (list_of ds) } ∷ nodes_in ds

  pub nodes_in : Data → List Node
  nodes_in none = []
  nodes_in (more d ds) = nodes_of d ++ nodes_in ds

abbrev pub row : List Datum → List Node
row ds = nodes_in (data_of ds)

-- the bytes of a text from a place up to another
abbrev pub between : ℕ → ℕ → List ℕ → List ℕ
between from to whole = drop from (take to whole)

-- what stands between quotes stands for: a backslash keeps the next byte
abbrev pub unquoted : List ℕ → List ℕ
unquoted [] = []
unquoted (b ∷ []) = if b == backslash then [] else b ∷ []
unquoted (b ∷ c ∷ raw) = if b == backslash then kept c ∷ unquoted raw else b ∷ unquoted (c ∷ raw)

-- all but the last
abbrev pub but_last : List ℕ → List ℕ
but_last bytes = take (length bytes - 1) bytes

-- what a run stands for that is no truth value
abbrev pub unmarked : List ℕ → Leaf
unmarked run = if is_number run then num (decimal_value run) else symbol run

-- the leaf that a piece of a text spells; none where it spells a list
unfoldable pub leaf_in : List ℕ → Option Leaf
leaf_in [] = Some (symbol [])
leaf_in (b ∷ after) =
    if b == open_paren then None
    else (if b == quote then Some (text (unquoted (but_last after)))
    else Some (leaf_of (b ∷ after)))

abbrev pub span_at : Node → Span
span_at n = record { from = n.from; to = n.to }

-- a datum from its node, and the data in it where it is a list
abbrev pub datum_at : Option Leaf → Node → List Datum → Datum
datum_at (Some l) n inner = leaf l (span_at n)
datum_at None n inner = items (data_of inner) (span_at n)

-- a datum before those behind its node, the first of which are in it where it is a list
abbrev pub before_others : Option Leaf → Node → List Datum → List Datum
before_others (Some l) n ds = leaf l (span_at n) ∷ ds
before_others None n ds = items (data_of (take n.count ds)) (span_at n) ∷ drop n.count ds

-- the data that nodes of a text stand for
abbrev pub forest : List ℕ → List Node → List Datum
forest whole [] = []
forest whole (n ∷ ns) = before_others (leaf_in (between n.from n.to whole)) n (forest whole ns)
