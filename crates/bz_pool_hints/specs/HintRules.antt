-- The rule of the hints. What was put is what was taken, in all lists together, and then what the deque holds.
use Rattle.std.specs.Prelude.{◌≡◌, ℕ, Bool, true, false, List, [], ◌∷◌, ◌++◌, length}
use Rattle.std.specs.List.{All, sum_by}
use mathlib.Core.Option.{some}
use lib.ListN.{get_elem?}
use Rattle.bz_pool_hints.specs.declared.hint.log.Log.{Log}
use Rattle.bz_pool_hints.specs.Hints.{IsSubsequence, IsHistory}

abbrev pub log : Bool → List ℕ → List ℕ → List (List ℕ) → Log
log owner put taken beside = record { owner = owner; put = put; taken = taken; beside = beside }

-- the owner at the start, and a pass that has taken nothing
abbrev pub first : Log
first = log true [] [] []

abbrev pub guest : Log
guest = log false [] [] []

-- all lists of what was taken
abbrev pub taken_lists : Log → List (List ℕ)
taken_lists v = v.taken ∷ v.beside

-- what a pass has taken, the numbers weighed by h and added up
abbrev pub had : (ℕ → ℕ) → Log → ℕ
had h v = sum_by (sum_by h) (taken_lists v)

-- One view is the owner's, at its port, which knows all that was put. Each list of what was taken is in order among what is gone
pub record Fits (owner : ℕ) (put gone : List ℕ) (port : ℕ) (v : Log) : Type 0 where
  pub knows : v.owner ≡ true → (port ≡ owner) × (v.put ≡ put)
  pub in_order : All (λ xs. IsSubsequence xs gone) (taken_lists v)

-- The deque holds these items, the last of what was put. What is gone weighs what is in the lists of all views, however the numbers are weighed:
-- so each number is in both as often
pub record Kept (items : List ℕ) (views : List Log) : Type 0 where
  pub owner : ℕ
  pub put : List ℕ
  pub gone : List ℕ
  pub suffix : put ≡ gone ++ items
  pub fits : (port : ℕ) (v : Log) → get_elem? views port ≡ some v → Fits owner put gone port v
  pub once : (h : ℕ → ℕ) → sum_by h gone ≡ sum_by (had h) views

-- a push
abbrev pub Puts : Log → List ℕ → Log → Type 0
Puts v xs w = w ≡ log v.owner (v.put ++ xs) v.taken v.beside

-- a pop or a steal
abbrev pub Takes : Log → List ℕ → Log → Type 0
Takes v xs w = w ≡ log v.owner v.put (v.taken ++ xs) v.beside

-- the history of the owner's lists, while the deque holds these
abbrev pub Told : Log → List ℕ → Type 0
Told v items = IsHistory v.put (length items) (taken_lists v)

-- there was nothing to take: some list was put, the owner's own where this is the owner, and all of it is gone
abbrev pub FindsNone : Log → Type 0
FindsNone v = (put : List ℕ) × (v.owner ≡ true → put ≡ v.put) × IsHistory put 0 (taken_lists v)

-- the lists of a pass that is taken in
abbrev pub gathered : Log → Log → Log
gathered v w = log v.owner v.put v.taken (v.beside ++ taken_lists w)

-- a pass with these lists
abbrev pub pass_of : List (List ℕ) → Log
pass_of [] = guest
pass_of (xs ∷ xss) = log false [] xs xss

-- the owner keeps its own list
abbrev pub kept : Log → Log
kept v = log v.owner v.put v.taken []

-- and hands those beside it to a pass, which has the first for its own
abbrev pub handed : Log → Log
handed v = pass_of v.beside
