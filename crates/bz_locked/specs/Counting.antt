-- What was counted of a journal in one pass.
use Rattle.std.specs.Prelude.{◌≡◌, ℕ, ◌+◌, ◌<◌, ◌≤◌, List, length, take, slice_index_or, slice_get, Some}
use Rattle.bz_model.specs.declared.event.Entry.{Entry}
use Rattle.bz_model.specs.declared.event.Who.TheVariants.{Host, Worker}
use Rattle.bz_locked.specs.Journal.{part_of, firings}
use Rattle.bz_locked.specs.Parts.{SessionView}

-- of the record at each place as many entries as are counted there, which are those of its host in what was read
abbrev pub HaveMet : List SessionView → List Entry → List ℕ → Type 0
HaveMet sessions read met =
    (k : ℕ) (s : SessionView) → k + 1 < length met → slice_get sessions k ≡ Some s
    → (take (slice_index_or met (k + 1) 0) s.own ≡ part_of (Host (k + 1)) read) × (slice_index_or met (k + 1) 0 ≤ length s.own)

-- of each worker its firings in what was read
abbrev pub HaveFired : List Entry → List ℕ → Type 0
HaveFired read fired = (k : ℕ) → k < length fired → slice_index_or fired k 0 ≡ firings (Worker k) read
