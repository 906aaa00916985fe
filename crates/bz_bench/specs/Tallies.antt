-- What was told of ports.
use Rattle.std.specs.Prelude.{◌≡◌, ℕ, Some, List}
use Rattle.bz_model.specs.declared.event.Entry.{Entry}
use Rattle.bz_model.specs.Names.{numbered}
use Rattle.bz_bench.specs.Streams.{begun, ended}
use Rattle.bz_bench.specs.declared.tally.Tally.{Tally}

pub record IsTally (port : ℕ) (entries : List Entry) (tally : Tally) : Type 0 where
  pub begun_is : tally.begun.items ≡ begun port entries
  pub ended_is : tally.ended.items ≡ ended port entries

-- each port's is that of the port
abbrev pub Tells : List Entry → List Tally → Type 0
Tells entries tallies = (port : ℕ) (tally : Tally) → numbered tallies port ≡ Some tally → IsTally port entries tally
