-- What passed at a port: how it is written, and when it is as wanted.
use Rattle.std.specs.Prelude.{◌≡◌, ℕ, ◌<◌, false, true, Option, Some, None, List, [], ◌++◌, codes, decimal, length, slice_get, unwrap_or}
use Rattle.std.specs.List.{flat_map}
use Rattle.bz_model.specs.declared.event.Entry.{Entry}
use Rattle.bz_model.specs.Names.{port_name}
use Rattle.bz_model.specs.Nets.{Wiring}
use Rattle.bz_bench.specs.Dues.{fits}
use Rattle.bz_bench.specs.Streams.{passed}
use Rattle.bz_bench.specs.declared.stream.Item.{Item}
use Rattle.bz_view.specs.Naming.{typed_text}

-- the value that came with a handshake, or a dot where it carries none
abbrev pub came_text : Option ℕ → List ℕ
came_text (Some value) = codes " " ++ decimal value
came_text None = codes " ."

-- the port, as it is typed, and what passed there by these entries
abbrev pub passed_line : Wiring → ℕ → List Entry → List ℕ
passed_line w port entries =
    typed_text (unwrap_or (port_name w.ports port) []) ++ (codes ":" ++ (flat_map came_text (passed w port entries) ++ codes "\n"))

-- the first so many that came are as their items want them
abbrev pub AreWanted : List Item → List (Option ℕ) → ℕ → Type 0
AreWanted items came n = (place : ℕ) (it : Option ℕ) → place < n → slice_get came place ≡ Some it → fits (slice_get items place) it ≡ true

-- all are, and there are as many as items
pub record IsAsWanted (items : List Item) (came : List (Option ℕ)) : Type 0 where
  pub count : length came ≡ length items
  pub all : AreWanted items came (length came)

-- all before this one are, and it is not: another one came than is wanted, or none came though one is
pub record DiffersFirst (items : List Item) (came : List (Option ℕ)) (place : ℕ) : Type 0 where
  pub before : AreWanted items came place
  pub another : (it : Option ℕ) → slice_get came place ≡ Some it → fits (slice_get items place) it ≡ false
  pub none : slice_get came place ≡ None → place < length items
