-- The bytes of a name and the entries of a component, wherever they stand.
use Rattle.std.specs.Prelude.{ℕ, List, take, ◌≤◌}
use Rattle.bz_breeze_records.specs.declared.part.Slot.{Slot}
use Rattle.bz_breeze_records.specs.declared.held.Held.{Held}
use Rattle.bz_breeze_records.specs.declared.held.Held.TheVariants.{Short, Long}
use Rattle.bz_breeze_records.specs.declared.held.HeldSlots.{HeldSlots}
use Rattle.bz_breeze_records.specs.declared.held.HeldSlots.TheVariants.{One, Row}

pub record Bytes : Type 0 where
  pub items : List ℕ

pub record Slots : Type 0 where
  pub items : List Slot

abbrev pub bytes_held : Held → List ℕ
bytes_held (Short bytes len) = take len bytes
bytes_held (Long v) = v.items

-- a short name lies within its place
abbrev pub IsWithin : Held → Type 0
IsWithin (Short bytes len) = len ≤ 24
IsWithin (Long v) = Unit {0}

abbrev pub slots_held : HeldSlots → List Slot
slots_held (One slots) = slots
slots_held (Row v) = v.items
