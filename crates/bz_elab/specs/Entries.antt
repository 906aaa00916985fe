-- The entries of a component, and the channels of its ports by them.
use Rattle.std.specs.Prelude.{◌≡◌, ℕ, ◌≤◌, Bool, true, false, not, IsTrue, if◌then◌else◌, Option, Some, None, List, [], ◌∷◌, ◌++◌, length, map, drop, take, count_by, filter_map, slice_index_or}
use Rattle.std.specs.List.{flat_map, All}
use Rattle.bz_model.specs.declared.channel.Chan.{Chan}
use Rattle.bz_model.specs.declared.channel.ChanKind.{ChanKind}
use Rattle.bz_model.specs.declared.channel.ChanKind.TheVariants.{Pull}
use Rattle.bz_model.specs.declared.kind.Kind.{Kind}
use Rattle.bz_model.specs.declared.kind_rules.EntryOrder.{EntryOrder}
use Rattle.bz_model.specs.declared.kind_rules.EntryOrder.TheVariants.{AsPorts, GuardSecond, GuardInFront}
use Rattle.bz_model.specs.Nets.{chan_in}
use Rattle.bz_model.specs.Rows.{PortRow, rows, kind_name, row_of, has_sizes, max_members}
use Rattle.bz_breeze_records.specs.declared.part.Slot.{Slot}
use Rattle.bz_breeze_records.specs.declared.part.Slot.TheVariants.{One, Many}

-- the channels that an entry names
abbrev pub named_in : Slot → List ℕ
named_in (One chan) = chan ∷ []
named_in (Many chans) = chans.items

-- all that entries name, in order
abbrev pub flattened : List Slot → List ℕ
flattened slots = flat_map named_in slots

abbrev pub single_of : Slot → Option ℕ
single_of (One chan) = Some chan
single_of slot = None

abbrev pub list_of : Slot → Option (List ℕ)
list_of (Many chans) = Some chans.items
list_of slot = None

-- the single entries, and the lists, each in order
abbrev pub singles : List Slot → List ℕ
singles slots = filter_map single_of slots

abbrev pub lists : List Slot → List (List ℕ)
lists slots = filter_map list_of slots

-- the lengths of the lists that are arrays, 0 where there is none
abbrev pub sizes_of : List Slot → List ℕ
sizes_of slots = slice_index_or (map length (lists slots)) 0 0 ∷ slice_index_or (map length (lists slots)) 1 0 ∷ []

abbrev pub first_list : List (List ℕ) → List ℕ
first_list [] = []
first_list (l ∷ ls) = l

-- in the order of a row: single entries are the single ports, lists the arrays
abbrev pub in_row : List PortRow → List ℕ → List (List ℕ) → List ℕ
in_row [] ones manys = []
in_row (r ∷ rs) ones manys =
    if r.array then first_list manys ++ in_row rs ones (drop 1 manys) else take 1 ones ++ in_row rs (drop 1 ones) manys

-- whether channel k is a pull channel
abbrev pub is_pull : ChanKind → Bool
is_pull Pull = true
is_pull kind = false

abbrev pub pulls : List Chan → ℕ → Bool
pulls chans k = is_pull (chan_in chans k).kind

-- the first entry on a pull channel becomes the second of three, if there is one, and the other two keep their order
abbrev pub guard_second : List Chan → List ℕ → List ℕ
guard_second chans (a ∷ b ∷ c ∷ []) =
    if pulls chans a then b ∷ a ∷ c ∷ []
    else (if pulls chans b then a ∷ b ∷ c ∷ []
    else (if pulls chans c then a ∷ c ∷ b ∷ []
    else a ∷ b ∷ c ∷ []))
guard_second chans ks = ks

-- the first of two entries on a pull channel stands in front, if there is one
abbrev pub guard_in_front : List Chan → List ℕ → List ℕ
guard_in_front chans (a ∷ b ∷ ks) =
    if pulls chans a then a ∷ b ∷ ks
    else (if pulls chans b then b ∷ a ∷ ks
    else a ∷ b ∷ ks)
guard_in_front chans ks = ks

-- single entries fill the single ports in order, but for those of a kind with a guard, which is on a pull channel
abbrev pub put_by : EntryOrder → List Chan → List ℕ → List ℕ
put_by AsPorts chans ks = ks
put_by GuardSecond chans ks = guard_second chans ks
put_by GuardInFront chans ks = guard_in_front chans ks

abbrev pub in_order : Kind → List Chan → List ℕ → List ℕ
in_order kind chans ks = put_by (rows (kind_name kind)).entries chans ks

-- the channels of a component's ports, in the order of the ports of its kind, by their numbers in a part with these
-- channels
abbrev pub arranged : Kind → List Chan → List Slot → List ℕ
arranged kind chans slots = in_order kind chans (in_row (row_of kind) (singles slots) (lists slots))

-- there is a single entry for each single port of the kind and a list for each array, of a length that it allows
pub record FitsPorts (kind : Kind) (slots : List Slot) : Type 0 where
  pub singles_are : length (singles slots) ≡ count_by (λ r. not r.array) (row_of kind)
  pub lists_are : length (lists slots) ≡ count_by (λ r. r.array) (row_of kind)
  pub members : All (λ l. length l ≤ max_members) (lists slots)
  pub sizes : IsTrue (has_sizes kind (sizes_of slots))
