-- Spans that ascend, by which the set of a value is found.
use Rattle.std.specs.List.{AllAdjacentBelow}
use Rattle.std.specs.Prelude.{ℕ, ◌≡◌, ◌<◌, ◌≤◌, List, length}
use Rattle.bz_model.specs.declared.spans.Span.{Span}
use Rattle.bz_model.specs.Specifications.{set_of}

-- each span ends below the next, which has a value
abbrev pub Ascends : List Span → Type 0
Ascends spans = AllAdjacentBelow (λ span next. (span.to < next.from) × (next.from ≤ next.to)) spans (length spans)

-- these spans ascend, and if there are any, each value is in the same set as by the others
pub record IsIndex (ascending spans : List Span) : Type 0 where
  pub ascends : Ascends ascending
  pub finds : 0 < length ascending → (none v : ℕ) → set_of ascending none v ≡ set_of spans none v
