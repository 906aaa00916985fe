-- The member that comes next.
use Rattle.std.proofs.Common.{◌≡◌, ◌⊎◌, ℕ, ◌<◌, ◌≤◌, Bool, true, false, Option, None, Some, List, length, slice_index_or, inl, inr, sym, ◌∙◌, arith}
use Rattle.std.proofs.lemmas.Bool.{false≢true}
use Rattle.std.proofs.lemmas.Bool.Decides.{leb_tells}
use Rattle.bz_bits.specs.Row.{IsNext}
use Rattle.bz_ready.specs.Set.{IsNextFrom}

-- there is a member at or above
pub above : (row : List Bool) (from m : ℕ) → IsNext row from (Some m) → IsNextFrom row from (Some m)
above row from m (high, within, is_in, none) = (is_in, inl (high, none))

-- there is none, and the first of all is below
pub around : (row : List Bool) (from m : ℕ) → IsNext row from None → IsNext row 0 (Some m) → IsNextFrom row from (Some m)
around row from m none (high, within, is_in, first) = (is_in, inr (λ j member. (at_least j member, below j member)))
  where
    at_least : (j : ℕ) → slice_index_or row j false ≡ true → m ≤ j
    at_least j member = elim (leb_tells m j) [
      | inl le ↦ le.1
      | inr lt ↦ absurd (false≢true (sym (first j (omega arith) lt.1) ∙ member))
    ]

    below : (j : ℕ) → slice_index_or row j false ≡ true → j < from
    below j member = elim (leb_tells from j) [
      | inl le ↦ absurd (false≢true (sym (none j le.1) ∙ member))
      | inr lt ↦ lt.1
    ]

-- there is none, and the first of all, if there is one, is below
pub around_all : (row : List Bool) (from : ℕ) (r : Option ℕ) → IsNext row from None → IsNext row 0 r → IsNextFrom row from r
around_all row from None none first = λ j. first j (omega arith)
around_all row from (Some m) none first = around row from m none first
