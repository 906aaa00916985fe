use Rattle.std.proofs.Common.{◌≡◌, ◌<◌, ◌≤◌, ℕ, map, length}
use Rattle.bz_flat.specs.Flats.{site_of}
use Rattle.bz_model.specs.Nets.{IsPort}
use Rattle.bz_net.specs.LinkRow.{StandsInRow}
use Rattle.bz_net.proofs.link_row.LinkRow.of.Given as goal

-- what the ports of the components so far lead to stands in the row
abbrev pub invariant-loop-place : goal.invariant-loop-place
invariant-loop-place l = record {
  count : length l.starts.items ≡ l.place;
  first : 0 < length l.row.items;
  stand : (c p : ℕ) → IsPort (map site_of l.fn.sites) c p → c ≤ l.place → StandsInRow (map site_of l.fn.sites) l.fn.ends l.starts.items l.row.items c p;
}
