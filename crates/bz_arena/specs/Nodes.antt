-- What the nodes of a block own and lend, at nodes of the row R.
use Rattle.std.specs.Prelude.{ℕ, ◌*◌, ◌-◌, ◌^◌, List, length}
use Rattle.std.specs.Mem.{type_size}
use base.Fraction.{full_share}
use base.Fml.{Lft, Fml, fsep, flt}
use mir.Syntax.{Ty, ty_array}
use mir.Raw.{raw}
use denote.RattleType.{RattleType}
use denote.Memory.{lone}
use denote.Array.{Array}
use denote.RawPtr.{Ptr, lies_at, room_for, in_block, ◌+ₚ◌}
use denote.Sharing.{said, beside}
use denote.Struct.Lending.{lent_at}

module _ (R : RattleType) where
  -- the type that a block of n places is for
  abbrev pub places_for : ℕ → Ty
  places_for n = raw (ty_array (lone R.mir) n)

  abbrev pub block_of : Ty
  block_of = places_for 256

  -- from p on there are n places: the first hold xs, and the others hold nothing
  abbrev pub places_own : Ptr → ℕ → List R.Denot → Fml
  places_own p n xs = fsep (lies_at (Array R (length xs)) full_share p xs) (room_for (places_for (n - length xs)) (p +ₚ length xs * type_size R))

  -- the same, where p is not null, and they take fewer than 2 ^ 63 bytes
  abbrev pub nodes_own : Ptr → ℕ → List R.Denot → Fml
  nodes_own p n xs = fsep (flt (n * type_size R) (2 ^ 63)) (in_block p (places_own p n xs))

  abbrev pub nodes_lent : Ptr → ℕ → List R.Denot → Lft → Fml
  nodes_lent p n xs κ = beside (said (flt (n * type_size R) (2 ^ 63))) (lent_at (Array R (length xs)) p xs) κ
