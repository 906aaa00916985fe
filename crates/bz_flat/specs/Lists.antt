-- The numbers of a list of channels, wherever they stand.
use Rattle.std.specs.Prelude.{ℕ, List, take, ◌≤◌}
use Rattle.bz_flat.specs.declared.chan_list.HeldChans.{HeldChans}
use Rattle.bz_flat.specs.declared.chan_list.HeldChans.TheVariants.{Few, Many}

pub record Numbers : Type 0 where
  pub items : List ℕ

abbrev pub numbers_held : HeldChans → List ℕ
numbers_held (Few chans len) = take len chans
numbers_held (Many v) = v.items

-- a short list lies within its place
abbrev pub IsWithin : HeldChans → Type 0
IsWithin (Few chans len) = len ≤ 6
IsWithin (Many v) = Unit {0}
