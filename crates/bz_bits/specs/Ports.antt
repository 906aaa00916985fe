-- States from 0 to 3, as two rows of bits.
use Rattle.std.specs.Prelude.{ℕ, Bool, true, false, List, [], ◌∷◌}

-- the state that two bits say
abbrev pub state_of : Bool → Bool → ℕ
state_of false false = 0
state_of true false = 1
state_of false true = 2
state_of true true = 3

abbrev pub states : List Bool → List Bool → List ℕ
states [] hs = []
states (l ∷ ls) [] = []
states (l ∷ ls) (h ∷ hs) = state_of l h ∷ states ls hs
