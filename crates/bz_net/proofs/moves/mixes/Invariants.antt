use Rattle.std.proofs.Common.{false, ◌≡◌, ◌≤◌, ◌<◌, ℕ, map}
use Rattle.bz_model.specs.Nets.{site_at}
use Rattle.bz_flat.specs.Flats.{site_of}
use Rattle.bz_model.specs.Clashes.{is_mixer}
use Rattle.bz_net.proofs.moves.mixes.Given as goal

-- none so far
abbrev pub invariant-loop-place : goal.invariant-loop-place
invariant-loop-place l = (c : ℕ) → 0 < c → c ≤ l.place → is_mixer (site_at (map site_of l.sites) c).kind ≡ false
