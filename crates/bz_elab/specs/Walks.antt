-- Laws of the walk of a net.
use Rattle.std.specs.Prelude.{◌≡◌, ◌⊎◌, ℕ, ◌<◌, ◌≤◌, None, Some, List, [], ◌∷◌, ◌++◌, length}
use Rattle.bz_breeze_records.specs.declared.part.Part.{Part}
use Rattle.bz_breeze_records.specs.declared.part.Component.{Component}
use Rattle.bz_elab.specs.Paths.{Path, Stop, copy, leaf, named, component, copied, stops, most_instances}

-- x is one of xs
abbrev pub Has : {X : Type 0} → List X → X → Type 0
Has [] x = ⊥
Has (y ∷ ys) x = (y ≡ x) ⊎ Has ys x

-- no two of them are the same
abbrev pub Differ : {X : Type 0} → List X → Type 0
Differ [] = Unit {0}
Differ (x ∷ xs) = (Has xs x → ⊥) × Differ xs

-- each component that is no instance, of a copy on no longer path than a net may have, is met
abbrev pub MeetsLeaves : List Part → Part → Type 0
MeetsLeaves parts top =
    (path : Path) (part : Part) (i : ℕ) (c : Component) → copied parts top path ≡ Some part → component part i ≡ Some c → named parts c.name.items ≡ None → length path ≤ most_instances
    → Has (stops parts top) (leaf path c)

-- The order of paths, from the outermost position on. (Paths are written innermost first, so two paths share their ends.)

-- q goes on from p
abbrev pub GoesOn : Path → Path → Type 0
GoesOn p q = (xs : Path) × (i : ℕ) × (q ≡ xs ++ i ∷ p)

-- where the two part, p goes on at the lesser position
abbrev pub GoesLower : Path → Path → Type 0
GoesLower p q = (up xs ys : Path) × (i j : ℕ) × (i < j) × (p ≡ xs ++ i ∷ up) × (q ≡ ys ++ j ∷ up)

abbrev pub Before : Path → Path → Type 0
Before p q = GoesOn p q ⊎ GoesLower p q

-- each comes before all that follow it
abbrev pub Rises : List Path → Type 0
Rises [] = Unit {0}
Rises (p ∷ ps) = ((q : Path) → Has ps q → Before p q) × Rises ps

-- a copy stands at its path, a leaf at its position in the copy that it is a component of
abbrev pub StandsAt : List Part → Part → Stop → Path → Type 0
StandsAt parts top (copy path part) at = (at ≡ path) × (copied parts top path ≡ Some part)
StandsAt parts top (leaf path c) at = (i : ℕ) × (part : Part) × (at ≡ i ∷ path) × (copied parts top path ≡ Some part) × (component part i ≡ Some c)

abbrev pub StandAt : List Part → Part → List Stop → List Path → Type 0
StandAt parts top [] [] = Unit {0}
StandAt parts top [] (p ∷ ps) = ⊥
StandAt parts top (s ∷ ss) [] = ⊥
StandAt parts top (s ∷ ss) (p ∷ ps) = StandsAt parts top s p × StandAt parts top ss ps

-- what is met stands at rising paths: a copy before what is in it, and components in order, each with all that is in it
abbrev pub MeetsInOrder : List Part → Part → Type 0
MeetsInOrder parts top = (paths : List Path) × StandAt parts top (stops parts top) paths × Rises paths
