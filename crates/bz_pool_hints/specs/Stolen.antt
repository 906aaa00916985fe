-- What a thief got, as a list.
use Rattle.std.specs.Prelude.{ℕ, List, [], ◌∷◌}
use Rattle.bz_pool_hints.specs.declared.hint.Stolen.{Stolen}
use Rattle.bz_pool_hints.specs.declared.hint.Stolen.TheVariants.{Hint, Empty, Retry}

abbrev pub hints_of : Stolen → List ℕ
hints_of (Hint x) = x ∷ []
hints_of Empty = []
hints_of Retry = []
