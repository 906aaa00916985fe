-- What is to pass at a port.
use Rattle.std.specs.Prelude.{◌≡◌, ℕ, ◌-◌, ◌<◌, ◌≤◌, Bool, true, false, nat_eq, nat_lt, not, if◌then◌else◌, Option, Some, None, List, length, slice_get}
use Rattle.std.specs.Option.{is_some}
use Rattle.bz_bench.specs.declared.stream.Item.{Item}
use Rattle.bz_bench.specs.declared.stream.Item.TheVariants.{Handshake, Value, Any}
use Rattle.bz_bench.specs.declared.stream.Stream.{Stream}

-- the item at a place: past the last one that which comes as often as it is asked for, if there is one
abbrev pub or_else : Option Item → Option Item → Option Item
or_else (Some item) forever = Some item
or_else None forever = forever

abbrev pub item_at : Stream → ℕ → Option Item
item_at stream place = or_else (slice_get stream.items.items place) stream.forever

-- whether what came or went is what an item wants
abbrev pub fits : Option Item → Option ℕ → Bool
fits (Some Handshake) None = true
fits (Some (Value due)) (Some came) = nat_eq due came
fits (Some Any) (Some came) = true
fits item came = false

-- all that passed is what is due
abbrev pub IsAsDue : Stream → List (Option ℕ) → Type 0
IsAsDue stream passed = (place : ℕ) (came : Option ℕ) → slice_get passed place ≡ Some came → fits (item_at stream place) came ≡ true

-- the first so many are, and with the next another one came than was due
pub record DiffersAt (stream : Stream) (passed : List (Option ℕ)) (place : ℕ) (due : Option Item) (came : Option ℕ) : Type 0 where
  pub before : (earlier : ℕ) (other : Option ℕ) → earlier < place → slice_get passed earlier ≡ Some other → fits (item_at stream earlier) other ≡ true
  pub due_is : due ≡ item_at stream place
  pub came_is : slice_get passed place ≡ Some came
  pub differs : fits due came ≡ false

-- how many handshakes have to end: all but the last where that is left open
abbrev pub to_end : Stream → ℕ
to_end stream = if stream.is_left_open then length stream.items.items - 1 else length stream.items.items

-- whether a group is this one or above it
abbrev pub is_within : Option ℕ → ℕ → Bool
is_within (Some own) group = not (nat_lt group own)
is_within None group = false

-- whether the item at a place stands in a group or above it: one that repeats past the last one does not
abbrev pub is_due : Stream → ℕ → ℕ → Bool
is_due stream group place = is_within (slice_get stream.groups.items place) group

-- whether all that stands in a group and those above it has passed, where so many handshakes were begun and ended: neither the next
-- one to begin stands there nor the next one that has to end
abbrev pub is_done : Stream → ℕ → ℕ → ℕ → Bool
is_done stream group begun ended =
    if is_due stream group begun then false else (if nat_lt ended (to_end stream) then not (is_due stream group ended) else true)

-- the group in which the item at a place stands: what repeats past the last one stands in that of the last line
abbrev pub group_at : Option ℕ → Option ℕ → ℕ
group_at (Some own) last = own
group_at None (Some last) = last
group_at None None = 0

abbrev pub group_of : Stream → ℕ → ℕ
group_of stream place = group_at (slice_get stream.groups.items place) stream.last

-- whether a handshake may begin after so many, where this group has begun: there is an item, and its group has begun
abbrev pub may_begin : Stream → ℕ → ℕ → Bool
may_begin stream group begun = if nat_lt group (group_of stream begun) then false else is_some (item_at stream begun)

-- whether one may end after so many: one that is left open need not
abbrev pub may_end : Stream → ℕ → Bool
may_end stream ended = if stream.is_left_open then nat_lt ended (to_end stream) else true

-- all that is due has passed, in this order and nothing else, and each handshake has ended that has to
pub record IsWhole (stream : Stream) (passed ended : List (Option ℕ)) : Type 0 where
  pub as_due : IsAsDue stream passed
  pub all : length stream.items.items ≤ length passed
  pub closed : to_end stream ≤ length ended
