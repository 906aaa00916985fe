use Rattle.std.proofs.Common.{◌≡◌, ℕ, ◌++◌, List, length}
use Rattle.bz_words.specs.Words.{SpellsBytes}
use Rattle.bz_words.proofs.words.read_name.Given as goal

abbrev pub invariant-loop-first : goal.invariant-loop-first
invariant-loop-first l = (front : List ℕ) × (l.fn.form ≡ front ++ l.rest) × SpellsBytes front l.name.items

abbrev pub decreases-loop-first : goal.decreases-loop-first
decreases-loop-first l = length l.rest
