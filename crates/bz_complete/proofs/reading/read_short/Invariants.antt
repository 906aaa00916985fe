use Rattle.std.proofs.Common.{◌≡◌, ℕ, ◌++◌, List, length}
use Rattle.bz_complete.specs.ShortTexts.{Spells}
use Rattle.bz_complete.proofs.reading.read_short.Given as goal

abbrev pub invariant-loop-before : goal.invariant-loop-before
invariant-loop-before l = (front : List ℕ) × (l.fn.text ≡ front ++ l.rest) × Spells l.names front l.moves.items × (length l.moves.items ≡ l.before)
