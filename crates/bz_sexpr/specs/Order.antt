-- Data in the order of a text: each takes up a piece of it, and of two side by side the second begins where the first has ended.
use Rattle.std.specs.Prelude.{ℕ, ◌+◌, ◌-◌, ◌≤◌, ◌<◌, List}
use Rattle.bz_sexpr.specs.Data.{Datum, leaf, items, Data, none, more, span_of}
use Rattle.bz_sexpr.specs.Views.{data_of}

abbrev mutual
  -- The data of a list lie between its parentheses.
  pub IsInOrder : Datum → Type 0
  IsInOrder (leaf l span) = span.from < span.to
  IsInOrder (items ds span) = AreWithin (span.from + 1) ds (span.to - 1)

  -- data one after another, from one byte up to another
  pub AreWithin : ℕ → Data → ℕ → Type 0
  AreWithin from none to = from ≤ to
  AreWithin from (more d ds) to = (from ≤ (span_of d).from) × IsInOrder d × AreWithin (span_of d).to ds to

-- data in the order of a text of this length
abbrev pub AreInOrder : List Datum → ℕ → Type 0
AreInOrder ds end = AreWithin 0 (data_of ds) end
