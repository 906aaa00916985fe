-- How high a part is and how much its copy brings, found without making one.
use Rattle.std.specs.Prelude.{◌≡◌, ◌⊎◌, ℕ, ◌+◌, ◌^◌, ◌<◌, ◌≤◌, Option, None, Some, List, length, slice_get, slice_index_or}
use Rattle.std.specs.List.{flat_map}
use Rattle.bz_breeze_records.specs.declared.part.Part.{Part}
use Rattle.bz_elab.specs.declared.totals.Total.{Total}
use Rattle.bz_elab.specs.Paths.{Path, Stop, copied, own_chans}
use Rattle.bz_elab.specs.Refusals.{own_comps, own_ends, most_ends}
use Rattle.bz_flat.specs.Wires.{most_comps, most_chans}
use Rattle.bz_elab.specs.Growth.{below_copy}

-- t is n, or both are more than a net may have
abbrev pub Capped : ℕ → ℕ → ℕ → Type 0
Capped most t n = (t ≡ n) ⊎ ((most < t) × (most < n))

-- the components, channels and ends that stops bring
pub record Brings (t : Total) (stops : List Stop) : Type 0 where
  pub comps : Capped most_comps t.comps (length (flat_map own_comps stops))
  pub chans : Capped most_chans t.chans (length (flat_map own_chans stops))
  pub ends : Capped most_ends t.ends (length (flat_map own_ends stops))

-- no total is far beyond what a net may have
pub record IsSmall (t : Total) : Type 0 where
  pub height : t.height ≤ 2 ^ 16
  pub comps : t.comps ≤ most_comps + 1
  pub chans : t.chans ≤ most_chans + 1
  pub ends : t.ends ≤ most_ends + 1

-- the height is the length of the longest path, and the rest is what lies below a copy
pub record IsTotal (parts : List Part) (part : Part) (t : Total) : Type 0 where
  pub short : (below : Path) (q : Part) → copied parts part below ≡ Some q → length below ≤ t.height
  pub longest : (below : Path) × (q : Part) × (copied parts part below ≡ Some q) × (length below ≡ t.height)
  pub brings : (path : Path) (depth : ℕ) → t.height ≤ depth → Brings t (below_copy parts path depth part)
  pub small : IsSmall t

-- a path goes on for more than so many instances
abbrev pub IsDeeper : List Part → Part → ℕ → Type 0
IsDeeper parts part depth = (below : Path) × (q : Part) × (copied parts part below ≡ Some q) × (depth < length below)

abbrev pub total_at : List (Option Total) → ℕ → Option Total
total_at totals n = slice_index_or totals n None

-- by its total a part goes no deeper, and there is no component and no channel below it
abbrev pub TellsBare : ℕ → Option Total → Type 0
TellsBare depth None = ⊥
TellsBare depth (Some t) = (t.height ≤ depth) × (t.comps ≡ 0) × (t.chans ≡ 0)

-- the totals that were found are those of their parts
pub record AreTotals (parts : List Part) (totals : List (Option Total)) : Type 0 where
  pub len : length totals ≡ length parts
  pub are : (n : ℕ) (t : Total) (p : Part) → total_at totals n ≡ Some t → slice_get parts n ≡ Some p → IsTotal parts p t
