-- A copy is a part of its net, and what it does in a run of the net is a run of the part alone.
use Rattle.std.proofs.Common.{◌≡◌, ℕ, Some, List, [], ◌∷◌, refl}
use Rattle.bz_model.specs.declared.event.Entry.{Entry}
use Rattle.bz_model.specs.Nets.{State, opening}
use Rattle.bz_model.specs.Runs.{Run}
use Rattle.bz_breeze_records.specs.declared.part.Part.{Part}
use Rattle.bz_elab.specs.Paths.{Path, copied, most_instances, net}
use Rattle.bz_elab.specs.Refusals.{HasPortChannels}
use Rattle.bz_elab.specs.Growth.{IsSoundBelow}
use Rattle.bz_run_laws.specs.Embeddings.{Embedding, IsPartOf, entries_in, state_in}
use Rattle.bz_run_laws.specs.Copies.{IsCopy, copy_at}
use Rattle.bz_run_laws.proofs.Seeing.{run-in}
use Rattle.bz_run_laws.proofs.Sound.{has-ports, sound-below}
use Rattle.bz_run_laws.proofs.Standing.{first, is-part}

module _ (parts : List Part) (name : List ℕ) (top part : Part) (i : ℕ) (up : Path) (is : IsCopy parts name top part i up) where
  sound : IsSoundBelow parts top most_instances
  sound = sound-below parts name top is.is_named is.accepted

  abbrev place : Embedding
  place = copy_at parts top (i ∷ up) part (first parts top part i up is.is_copied sound)

  placed-so : IsPartOf (net parts part) (net parts top) place
  placed-so =
      let ports : (path : Path) (p : Part) → copied parts top path ≡ Some p → HasPortChannels p = has-ports parts name top is.is_named is.whole in
      is-part parts top part i up is.is_copied sound (ports [] top refl) (ports (i ∷ up) part is.is_copied) is.differ is.wired is.own is.used

  pub copy-is-part : (n : ℕ) × IsPartOf (net parts part) (net parts top) (copy_at parts top (i ∷ up) part n)
      × ((es : List Entry) (last : State) → Run (net parts top) (opening (net parts top)) es last
      → Run (net parts part) (opening (net parts part)) (entries_in (copy_at parts top (i ∷ up) part n) es) (state_in (copy_at parts top (i ∷ up) part n) last))
  copy-is-part = (
    first parts top part i up is.is_copied sound,
    placed-so,
    λ es last run. run-in (net parts part) (net parts top) place is.own is.wired placed-so es last run,
  )
