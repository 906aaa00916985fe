-- A copy of a part in a net, as a part of that net.
use Rattle.std.specs.Prelude.{◌≡◌, ℕ, suc, ◌<◌, ◌≤◌, Some, List, ◌∷◌, ◌++◌, length, map}
use Rattle.std.specs.List.{All, range_with_len}
use Rattle.bz_model.specs.Nets.{Wiring}
use Rattle.bz_model.specs.Hosts.{port_is_passive}
use Rattle.bz_breeze_records.specs.declared.part.Part.{Part}
use Rattle.bz_flat.specs.declared.error.ElabError.{ElabError}
use Rattle.bz_flat.specs.Wires.{HasEnd, WellWired}
use Rattle.bz_elab.specs.Paths.{Path, all_places, copied, joined, named, net, number_in}
use Rattle.bz_elab.specs.Refusals.{Applies, HasPortChannels}
use Rattle.bz_run_laws.specs.Embeddings.{Embedding}

-- each port of the net is one of a component
abbrev pub UsesPorts : Wiring → Type 0
UsesPorts w = (k : ℕ) → 0 < k → k ≤ length w.ports → HasEnd w.sites k (port_is_passive w.ports k)

-- no two ports of the copy at a path are one channel of the net
abbrev pub PortsDiffer : List Part → Part → Path → Part → Type 0
PortsDiffer parts top at part =
    (k j : ℕ) → 0 < k → k ≤ length part.ports.items → 0 < j → j ≤ length part.ports.items → joined parts top at k ≡ joined parts top at j → k ≡ j

-- The top, the first part of this name, is accepted, and component i of its copy at `up` is an instance of the part. The
-- part's own net is well wired too, and uses its ports, and these are different channels of the net.
pub record IsCopy (parts : List Part) (name : List ℕ) (top part : Part) (i : ℕ) (up : Path) : Type 0 where
  pub whole : All HasPortChannels parts
  pub is_named : named parts name ≡ Some top
  pub accepted : (e : ElabError) → Applies parts name e → ⊥
  pub wired : WellWired (net parts top)
  pub is_copied : copied parts top (i ∷ up) ≡ Some part
  pub own : WellWired (net parts part)
  pub used : UsesPorts (net parts part)
  pub differ : PortsDiffer parts top (i ∷ up) part

-- Where the copy at a path is: its components come after the first n, one after another, and each of its channels is where
-- its place comes to.
abbrev pub copy_at : List Part → Part → Path → Part → ℕ → Embedding
copy_at parts top at part n = record {
  comps = range_with_len (suc n) (length (net parts part).sites);
  chans = map (λ p. number_in (all_places parts top) (joined parts top (p.path ++ at) p.number)) (all_places parts part);
}
