-- The rule of a front, and what each step on its word tells the seat that makes it.
use Rattle.std.specs.Prelude.{◌≡◌, ◌⊎◌, ℕ, ◌+◌, ◌-◌, ◌<◌, ◌≤◌, max, List, [], ◌∷◌}
use Rattle.std.specs.List.{All, sum_by}
use Rattle.atomic_table.specs.Table.{State, Step, Me}
use Rattle.bz_front.specs.declared.view.View.{View}

abbrev pub view : ℕ → ℕ → ℕ → View
view seen published parts = record { seen = seen; published = published; parts = parts }

-- a seat that another took in
abbrev pub spent : View
spent = view 0 0 0

-- the greatest number that any seat published, 0 for none
abbrev pub greatest : List View → ℕ
greatest [] = 0
greatest (v ∷ vs) = max v.published (greatest vs)

-- The word is at least what each seat has seen, and is the greatest number published.
-- Each seat has a part or more, unless it is spent, and all parts add up
pub record IsKept (parts word : ℕ) (views : List View) : Type 0 where
  pub seen : All (λ v. v.seen ≤ word) views
  pub published : word ≡ greatest views
  pub parted : All (λ v. (0 < v.parts) ⊎ (v ≡ spent)) views
  pub whole : sum_by (λ v. v.parts) views ≡ parts

-- there is one word, under this rule
abbrev pub Holds : ℕ → State (Unit {0}) View → Type 0
Holds parts s = (word : ℕ) × (s.words ≡ word ∷ []) × IsKept parts word s.views

-- a load: the word found is at least what was seen, and is now seen
abbrev pub Loads : Step (Unit {0}) → Me (Unit {0}) View → ℕ → Me (Unit {0}) View → Type 0
Loads s m found n = (m.0.seen ≤ found) × (n ≡ (view found m.0.published m.0.parts, m.1))

-- a fetch_max: the word is now at least s.first, which is published
abbrev pub Raises : Step (Unit {0}) → Me (Unit {0}) View → ℕ → Me (Unit {0}) View → Type 0
Raises s m found n = (m.0.seen ≤ found) × (n ≡ (view (max found s.first) (max m.0.published s.first) m.0.parts, m.1))

-- a seat without one of its parts
abbrev pub remaining : View → View
remaining v = view v.seen v.published (v.parts - 1)

-- the seat of that one part, which has seen as much
abbrev pub split_off : View → View
split_off v = view v.seen 0 1

-- two seats as one
abbrev pub joined : View → View → View
joined v w = view (max v.seen w.seen) (max v.published w.published) (v.parts + w.parts)
