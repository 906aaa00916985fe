-- In which order groups of lines pass.
use Rattle.std.specs.Prelude.{◌≡◌, ◌≢◌, ℕ, ◌<◌, true, Some, List, [], length, slice_get, take}
use Rattle.bz_model.specs.declared.event.Entry.{Entry}
use Rattle.bz_model.specs.Names.{numbered}
use Rattle.bz_bench.specs.Dues.{group_of, is_done, may_begin}
use Rattle.bz_bench.specs.Streams.{begins, begun, ended, shown}
use Rattle.bz_bench.specs.declared.stream.Stream.{Stream}

-- of each port this holds of its number and its stream
abbrev pub OfEach : List Stream → (ℕ → Stream → Type 0) → Type 0
OfEach streams P = (port : ℕ) (stream : Stream) → numbered streams port ≡ Some stream → P port stream

-- all that stands in a group and those above it has passed at a port
abbrev pub IsDone : List Entry → ℕ → ℕ → Stream → Type 0
IsDone entries group port stream = is_done stream group (length (begun port entries)) (length (ended port entries)) ≡ true

-- A step of a play in which this group has begun last: all that stands in the groups above it has passed, and what begins with the
-- next entry may begin in this group.
pub record IsStep (streams : List Stream) (entries : List Entry) (next : Entry) (group : ℕ) : Type 0 where
  pub done : (above : ℕ) → above < group → OfEach streams (IsDone entries above)
  pub may : OfEach streams (λ port stream. shown begins port next ≢ [] → may_begin stream group (length (begun port entries)) ≡ true)

-- each entry of a play is such a step, where before it these groups had begun last
abbrev pub IsPlay : List Stream → List Entry → (ℕ → ℕ) → Type 0
IsPlay streams entries groups = (place : ℕ) (entry : Entry) → slice_get entries place ≡ Some entry → IsStep streams (take place entries) entry (groups place)

-- with no entry anything begins before all that stands in the groups above its own has passed
abbrev pub AreInTurn : List Stream → List Entry → Type 0
AreInTurn streams entries = (place : ℕ) (entry : Entry) → slice_get entries place ≡ Some entry
    → OfEach streams (λ port stream. shown begins port entry ≢ [] → (group : ℕ) → group < group_of stream (length (begun port (take place entries)))
    → OfEach streams (IsDone (take place entries) group))
