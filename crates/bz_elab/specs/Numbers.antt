-- Parts by their places in the text, counted from 0, and which of them are below which.
use Rattle.std.specs.Prelude.{◌≡◌, ◌⊎◌, ℕ, suc, ◌+◌, ◌<◌, ◌≤◌, Bool, true, false, Option, None, Some, List, [], ◌∷◌, ◌++◌, length, slice_get, slice_index_or, bytes_eq, option_and_then, if◌then◌else◌}
use Rattle.std.specs.Option.{option_map}
use Rattle.bz_breeze_records.specs.declared.part.Part.{Part}
use Rattle.bz_breeze_records.specs.declared.part.Component.{Component}
use Rattle.bz_elab.specs.declared.reach.Marking.{Marking}
use Rattle.bz_elab.specs.Paths.{Path, component}

-- the place of the first part of that name
abbrev pub number_named : List Part → List ℕ → Option ℕ
number_named [] name = None
number_named (p ∷ ps) name = if bytes_eq p.name.items name then Some 0 else option_map suc (number_named ps name)

-- the place of the part of which component i of part n is an instance
abbrev pub inner_number : List Part → ℕ → ℕ → Option ℕ
inner_number parts n i = option_and_then (λ c. number_named parts c.name.items) (option_and_then (λ p. component p i) (slice_get parts n))

-- the place of the part whose copy is at a path of part n
abbrev pub number_at : List Part → ℕ → Path → Option ℕ
number_at parts n [] = Some n
number_at parts n (i ∷ up) = option_and_then (λ m. inner_number parts m i) (number_at parts n up)

-- part m is reached from part n by one instance or more
abbrev pub IsBelow : List Part → ℕ → ℕ → Type 0
IsBelow parts n m = (i : ℕ) × (up : Path) × (number_at parts n (i ∷ up) ≡ Some m)

-- part m is reached from part n, or is part n
abbrev pub IsReached : List Part → ℕ → ℕ → Type 0
IsReached parts n m = (path : Path) × (number_at parts n path ≡ Some m)

-- it stands at no place before
abbrev pub IsFirstPlace : List Part → ℕ → Part → Type 0
IsFirstPlace parts n part = (k : ℕ) → slice_get parts k ≡ Some part → n ≤ k

abbrev pub is_marked : List Bool → ℕ → Bool
is_marked marks n = slice_index_or marks n false

-- what is marked is what P holds of
pub record Marks (parts : List Part) (P : ℕ → Type 0) (marks : List Bool) : Type 0 where
  pub len : length marks ≡ length parts
  pub sound : (n : ℕ) → is_marked marks n ≡ true → P n
  pub whole : (n : ℕ) → P n → is_marked marks n ≡ true

-- The parts below one, while they are looked for.

abbrev pub unmarked : List Bool → ℕ
unmarked [] = 0
unmarked (m ∷ ms) = if m then unmarked ms else suc (unmarked ms)

-- a part was marked, and put at the end where it was not marked before
pub record Marked (old new : Marking) (n : ℕ) : Type 0 where
  pub len : length new.marks.items ≡ length old.marks.items
  pub here : is_marked new.marks.items n ≡ true
  pub others : (m : ℕ) → (m ≡ n → ⊥) → is_marked new.marks.items m ≡ is_marked old.marks.items m
  pub same : is_marked old.marks.items n ≡ true → new.queue.items ≡ old.queue.items
  pub more : is_marked old.marks.items n ≡ false → new.queue.items ≡ old.queue.items ++ n ∷ []
  pub count : unmarked new.marks.items + length new.queue.items ≡ unmarked old.marks.items + length old.queue.items

-- the parts below `start` that are marked: those of all instances in the first parts of the queue, up to component `upto`
-- of the one at `head`
pub record Spread (parts : List Part) (start head upto : ℕ) (r : Marking) : Type 0 where
  pub len : length r.marks.items ≡ length parts
  pub begins : slice_get r.queue.items 0 ≡ Some start
  pub sound : (m : ℕ) → is_marked r.marks.items m ≡ true → IsBelow parts start m
  pub queued : (j m : ℕ) → slice_get r.queue.items j ≡ Some m → (m ≡ start) ⊎ (is_marked r.marks.items m ≡ true)
  pub present : (m : ℕ) → is_marked r.marks.items m ≡ true → (j : ℕ) × (slice_get r.queue.items j ≡ Some m)
  pub done : (j n k m : ℕ) → (j < head) ⊎ ((j ≡ head) × (k ≤ upto)) → slice_get r.queue.items j ≡ Some n → inner_number parts n k ≡ Some m → is_marked r.marks.items m ≡ true
  pub count : unmarked r.marks.items + length r.queue.items ≡ length parts + 1

-- the instances of the part at `head` of the queue were marked
abbrev pub SpreadOn : List Part → Part → Marking → Marking → Type 0
SpreadOn parts part old new =
    (start head n : ℕ) → slice_get parts n ≡ Some part → slice_get old.queue.items head ≡ Some n → Spread parts start head 0 old → Spread parts start (head + 1) 0 new

-- the first of the marked parts that is below itself
abbrev pub IsFirstRecursive : List Part → List Bool → Option ℕ → Type 0
IsFirstRecursive parts marks None = (n : ℕ) → is_marked marks n ≡ true → IsBelow parts n n → ⊥
IsFirstRecursive parts marks (Some n) =
    (is_marked marks n ≡ true) × IsBelow parts n n × ((m : ℕ) → is_marked marks m ≡ true → IsBelow parts m m → n ≤ m)

-- Ranks of parts.

abbrev pub rank_at : List ℕ → ℕ → ℕ
rank_at ranks n = slice_index_or ranks n 0

-- no component of these is an instance of a part that is ranked higher than the one found
abbrev pub IsHighest : List Part → List ℕ → List Component → Option ℕ → Type 0
IsHighest parts ranks cs None = (k : ℕ) (c : Component) (m : ℕ) → slice_get cs k ≡ Some c → number_named parts c.name.items ≡ Some m → ⊥
IsHighest parts ranks cs (Some h) = (k : ℕ) (c : Component) (m : ℕ) → slice_get cs k ≡ Some c → number_named parts c.name.items ≡ Some m → rank_at ranks m ≤ h

-- all that part n has instances of is ranked lower
abbrev pub Falls : List Part → List ℕ → ℕ → Type 0
Falls parts ranks n = (k m : ℕ) → inner_number parts n k ≡ Some m → rank_at ranks m < rank_at ranks n

-- what a part has an instance of is ranked no higher
abbrev pub NeverRise : List Part → List ℕ → Type 0
NeverRise parts ranks = (n k m : ℕ) → inner_number parts n k ≡ Some m → rank_at ranks m ≤ rank_at ranks n
