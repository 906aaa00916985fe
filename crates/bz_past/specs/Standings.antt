-- How sessions stand after their turns.
use Rattle.std.specs.Prelude.{◌≡◌, ℕ, zero, suc, Option, Some, None, List, [], ◌∷◌, ◌++◌, map}
use Rattle.std.specs.List.{filter}
use Rattle.bz_model.specs.declared.event.Who.{Who}
use Rattle.bz_model.specs.declared.event.Who.TheVariants.{Host}
use Rattle.bz_past.specs.Owners.{same_who}
use Rattle.bz_past.specs.declared.standing.Standing.{Standing}
use Rattle.bz_past.specs.declared.standing.Standing.TheVariants.{Running}
use Rattle.bz_past.specs.declared.standing.Turn.{Turn}
use Rattle.bz_past.specs.declared.view.Moment.{Moment}

-- one turn more, where there is one: of this one, at a journal of so many entries
abbrev pub turned : List Turn → Who → ℕ → Option Standing → List Turn
turned turns who at None = turns
turned turns who at (Some standing) = turns ++ record { who = who; at = at; standing = standing } ∷ []

abbrev pub listed : Option Standing → List Standing
listed None = []
listed (Some standing) = standing ∷ []

-- how this one has stood, in order, as it turned
abbrev pub turned_by : Who → List Turn → List Standing
turned_by who turns = map (λ t. t.standing) (filter (λ t. same_who t.who who) turns)

abbrev pub last_or : Standing → List Standing → Standing
last_or standing [] = standing
last_or standing (s ∷ ss) = last_or s ss

-- how this one stands: as it turned last; until its first turn it runs
abbrev pub standing_of : Who → List Turn → Standing
standing_of who turns = last_or Running (turned_by who turns)

-- how so many hosts stand, behind the first ones
abbrev pub standings_behind : ℕ → ℕ → List Turn → List Standing
standings_behind first zero turns = []
standings_behind first (suc count) turns = standing_of (Host (suc first)) turns ∷ standings_behind (suc first) count turns

-- how Host 1 and on stand, so many of them
abbrev pub standings_of : ℕ → List Turn → List Standing
standings_of count turns = standings_behind 0 count turns

-- between the two this one has turned so, in order
abbrev pub HasTurned : Who → List Standing → Moment → Moment → Type 0
HasTurned who standings a b = turned_by who b.turns ≡ turned_by who a.turns ++ standings
