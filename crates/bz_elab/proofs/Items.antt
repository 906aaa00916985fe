-- A part's components, as they were read.
use Rattle.std.proofs.Common.{◌≡◌, ℕ, zero, suc, ◌+◌, ◌-◌, ◌^◌, ◌<◌, ◌≤◌, ◌⊎◌, inl, inr, Bool, true, None, Some, List, [], ◌∷◌, ◌++◌, length, drop, take, refl, sym, ◌∙◌, ap, subst, arith, add-one, get_or, slice_get, append_assoc, map, length-append, length-drop}
use Rattle.std.specs.List.{flat_map, All}
use Rattle.std.proofs.lemmas.List.{append-nil}
use Rattle.std.proofs.lemmas.Option.{slice_get_read, slice_get_within}
use Rattle.bz_model.specs.declared.channel.Chan.{Chan}
use Rattle.bz_breeze_records.specs.declared.part.Part.{Part}
use Rattle.bz_breeze_records.specs.declared.part.Component.{Component}
use Rattle.bz_flat.specs.declared.error.ElabError.{ElabError}
use Rattle.bz_flat.specs.declared.error.ElabError.TheVariants.{TooBig, Memory}
use Rattle.bz_flat.specs.declared.flat.FlatComp.{FlatComp}
use Rattle.bz_elab.specs.declared.walk.Draft.{Draft}
use Rattle.bz_elab.specs.declared.walk.Level.{Level}
use Rattle.bz_elab.specs.declared.reading.Instance.{Instance}
use Rattle.bz_elab.specs.declared.reading.Item.{Item}
use Rattle.bz_elab.specs.declared.reading.Item.TheVariants.{Leaf}
use Rattle.bz_elab.specs.declared.reading.Reading.{Reading}
use Rattle.bz_elab.specs.Entries.{flattened}
use Rattle.bz_flat.specs.Wires.{most_chans}
use Rattle.bz_elab.specs.Paths.{Path, Place, copy, leaf, instance, leaf_role, chans_of_copy, own_places, named, component, inner, most_instances, copied, each_from, visit, walk, own_chans}
use Rattle.bz_elab.specs.Refusals.{IsChannel}
use Rattle.bz_elab.specs.Numbers.{number_named, inner_number, number_at, is_marked}
use Rattle.bz_elab.specs.Growth.{IsFlat, IsSoundInstance, Refused, IsShort, IsBare, IsNet, net_number, FitsNet, CopyNumbers, Grows, Counts, Entered, Flattened, Counted, below_copy}
use Rattle.bz_elab.specs.Readings.{AddsNothing, IsItem, IsCopy, LeafOn, CopyOn, IsFull, AreRead, IsReadBelow, told, ends_of, AreOwn}
use Rattle.bz_elab.proofs.Counting.{counts_bare, counts_step, counts_nothing, counts_leaf_step, counts_copy_step, leaf_ends}
use Rattle.bz_elab.proofs.Growing.{grows_bare, grows_nothing, flatten_step, leaf_step, copy_step, copies_grow, length_grown, fits_inside, take_whole, component_at, whole_net}
use Rattle.bz_elab.proofs.Slots.{all_arranged, length-arranged}
use Rattle.bz_elab.proofs.Soundness.{same_some}
use Rattle.bz_elab.proofs.Totaling.{copied_below}

-- A part is short, and so is each of which it has an instance.

pub short_inner : (parts : List Part) (part p : Part) (k depth : ℕ) → IsShort parts part (suc depth) → inner parts part k ≡ Some p → IsShort parts p depth
short_inner parts part p k depth short at below q e =
    let w = short (below ++ k ∷ []) q (copied_below parts part p k below q at e) in
    let n = length-append below (k ∷ []) in
    omega (arith, w, n)

pub inner_component : (parts : List Part) (part p : Part) (k : ℕ) (c : Component) → component part k ≡ Some c → named parts c.name.items ≡ Some p → inner parts part k ≡ Some p
inner_component parts part p k c has is = rw has is

-- A component that adds nothing.

drop_past : {X : Type 0} (xs : List X) (n : ℕ) → length xs ≤ n → drop n xs ≡ []
drop_past [] zero h = refl
drop_past [] (suc n) h = refl
drop_past (x ∷ xs) zero h = absurd (omega arith)
drop_past (x ∷ xs) (suc n) h = drop_past xs n (omega arith)

pub bare_visit : (parts : List Part) (part : Part) (depth k : ℕ) (c : Component) → IsShort parts part depth → component part k ≡ Some c → AddsNothing parts c → (path : Path)
    → IsBare (visit parts path (walk parts depth) k c)
bare_visit parts part zero k c short has nothing path = rw (nothing.is_named, visit) (record { comps = refl; chans = refl })
bare_visit parts part (suc m) k c short has nothing path =
    let p = nothing.part in
    let below = nothing.empty.bare (k ∷ path) m (short_inner parts part p k m short (inner_component parts part p k c has nothing.is_named)) in
    let own = drop_past p.channels.items (length p.ports.items) nothing.empty.no_own in
    rw (nothing.is_named, visit) (record {
      comps = below.comps;
      chans = ap (λ xs. xs ++ flat_map own_chans (below_copy parts (k ∷ path) m p)) own ∙ below.chans;
    })

-- The walk as far as component j.

pub record Upto (parts : List Part) (part : Part) (levels : List Level) (depth : ℕ) (old new : Draft) (j : ℕ) : Type 0 where
  pub grows : (top : Part) (path : Path) (before : List Place) → copied parts top path ≡ Some part → length before ≡ length old.chans → CopyNumbers parts top before path levels
      → Grows parts top before old new (each_from 1 (visit parts path (walk parts depth)) (take j part.components.items))
  pub counts : (path : Path) → Counts old new (each_from 1 (visit parts path (walk parts depth)) (take j part.components.items))

pub upto_start : (parts : List Part) (part : Part) (levels : List Level) (depth : ℕ) (d : Draft) → Upto parts part levels depth d d 0
upto_start parts part levels depth d = record {
  grows = λ top path before at len n. grows_nothing parts top before d;
  counts = λ path. counts_nothing d;
}

upto_skip : (parts : List Part) (part : Part) (levels : List Level) (depth : ℕ) (old new : Draft) (j : ℕ) (c : Component) → IsShort parts part depth → j < length part.components.items → c ≡ get_or part.components.items j c
    → AddsNothing parts c → Upto parts part levels depth old new j → Upto parts part levels depth old new (j + 1)
upto_skip parts part levels depth old new j c short lt is nothing u =
    let items = part.components.items in
    let has = component_at part items j c refl is lt in
    let bare = bare_visit parts part depth (suc j) c short has nothing in
    record {
      grows = λ top path before at len n. flatten_step parts top path before depth j items c old new new is lt (u.grows top path before at len n) (grows_bare parts top _ new _ (bare path));
      counts = λ path. counts_step parts path depth j items c old new new lt is (u.counts path) (counts_bare new _ (bare path));
    }

drop_lt : {X : Type 0} (xs : List X) (j : ℕ) (c : X) (cs : List X) → drop j xs ≡ c ∷ cs → j < length xs
drop_lt [] zero c cs e = cc
drop_lt [] (suc j) c cs e = cc
drop_lt (x ∷ xs) zero c cs e = omega arith
drop_lt (x ∷ xs) (suc j) c cs e = let w = drop_lt xs j c cs e in omega (arith, w)

drop_head : {X : Type 0} (xs : List X) (j : ℕ) (c : X) (cs : List X) → drop j xs ≡ c ∷ cs → c ≡ get_or xs j c
drop_head [] zero c cs e = cc
drop_head [] (suc j) c cs e = cc
drop_head (x ∷ xs) zero c cs e = cc
drop_head (x ∷ xs) (suc j) c cs e = drop_head xs j c cs e

drop_tail : {X : Type 0} (xs : List X) (j : ℕ) (c : X) (cs : List X) → drop j xs ≡ c ∷ cs → drop (suc j) xs ≡ cs
drop_tail [] zero c cs e = cc
drop_tail [] (suc j) c cs e = cc
drop_tail (x ∷ xs) zero c cs e = cc
drop_tail (x ∷ xs) (suc j) c cs e = drop_tail xs j c cs e

-- the component that the next item tells of
pub record NextAt (parts : List Part) (part : Part) (levels : List Level) (depth : ℕ) (old new : Draft) (x : Item) (xs : List Item) : Type 0 where
  pub at : ℕ
  pub comp : Component
  pub lt : at < length part.components.items
  pub is : comp ≡ get_or part.components.items at comp
  pub upto : Upto parts part levels depth old new at
  pub item : IsItem parts part.channels.items comp x
  pub rest : AreRead parts part.channels.items (drop (at + 1) part.components.items) xs

next_in : (parts : List Part) (part : Part) (levels : List Level) (depth : ℕ) (old new : Draft) (x : Item) (xs : List Item) (rest : List Component) (j : ℕ) → IsShort parts part depth → drop j part.components.items ≡ rest
    → Upto parts part levels depth old new j → AreRead parts part.channels.items rest (x ∷ xs) → NextAt parts part levels depth old new x xs
next_in parts part levels depth old new x xs [] j short here u read = absurd read
next_in parts part levels depth old new x xs (c ∷ cs) j short here u (inl (item, more)) = record {
  at = j;
  comp = c;
  lt = drop_lt part.components.items j c cs here;
  is = drop_head part.components.items j c cs here;
  upto = u;
  item = item;
  rest = rw (add-one, drop_tail part.components.items j c cs here) more;
}
next_in parts part levels depth old new x xs (c ∷ cs) j short here u (inr (nothing, more)) =
    let lt = drop_lt part.components.items j c cs here in
    let is = drop_head part.components.items j c cs here in
    next_in parts part levels depth old new x xs cs (j + 1) short (rw add-one (drop_tail part.components.items j c cs here)) (upto_skip parts part levels depth old new j c short lt is nothing u) more

-- The loop: the draft so far, and what is left of the items.
pub record SoFar (parts : List Part) (part : Part) (levels : List Level) (depth : ℕ) (old new : Draft) (items : List Item) : Type 0 where
  pub at : ℕ
  pub upto : Upto parts part levels depth old new at
  pub rest : AreRead parts part.channels.items (drop at part.components.items) items

pub next_item : (parts : List Part) (part : Part) (levels : List Level) (depth : ℕ) (old new : Draft) (x : Item) (xs : List Item) → IsShort parts part depth → SoFar parts part levels depth old new (x ∷ xs)
    → NextAt parts part levels depth old new x xs
next_item parts part levels depth old new x xs short s = next_in parts part levels depth old new x xs _ s.at short refl s.upto s.rest

last_in : (parts : List Part) (part : Part) (levels : List Level) (depth : ℕ) (old new : Draft) (rest : List Component) (j : ℕ) → IsShort parts part depth → drop j part.components.items ≡ rest
    → Upto parts part levels depth old new j → AreRead parts part.channels.items rest [] → (k : ℕ) × (length part.components.items ≤ k) × Upto parts part levels depth old new k
last_in parts part levels depth old new [] j short here u read = (j, past part.components.items j here, u)
  where
    past : (xs : List Component) (j : ℕ) → drop j xs ≡ [] → length xs ≤ j
    past [] j e = omega arith
    past (y ∷ ys) zero e = cc
    past (y ∷ ys) (suc j) e = let w = past ys j e in omega (arith, w)
last_in parts part levels depth old new (c ∷ cs) j short here u (nothing, more) =
    let lt = drop_lt part.components.items j c cs here in
    let is = drop_head part.components.items j c cs here in
    last_in parts part levels depth old new cs (j + 1) short (rw add-one (drop_tail part.components.items j c cs here)) (upto_skip parts part levels depth old new j c short lt is nothing u) more

-- no item is left
pub all_items : (parts : List Part) (part : Part) (levels : List Level) (depth : ℕ) (old new : Draft) → IsShort parts part depth → SoFar parts part levels depth old new []
    → Flattened parts part levels depth old new × Counted parts part depth old new
all_items parts part levels depth old new short s =
    let (k, le, u) = last_in parts part levels depth old new _ s.at short refl s.upto s.rest in
    let whole = take_whole part.components.items k le in (
      λ top path before at len n. subst (λ (xs : List Component). Grows parts top before old new (each_from 1 (visit parts path (walk parts depth)) xs)) whole (u.grows top path before at len n),
      λ path. subst (λ (xs : List Component). Counts old new (each_from 1 (visit parts path (walk parts depth)) xs)) whole (u.counts path),
    )

-- What is read below an instance.

reached_on : (parts : List Part) (n q m k : ℕ) (path : Path) → inner_number parts n k ≡ Some q → number_at parts q path ≡ Some m → number_at parts n (path ++ k ∷ []) ≡ Some m
reached_on parts n q m k [] is e = is ∙ e
reached_on parts n q m k (i ∷ up) is e = elim (number_at parts q up) as (λ o. number_at parts q up ≡ o → number_at parts n ((i ∷ up) ++ k ∷ []) ≡ Some m) [
  | None ↦ λ f. let g = rw f at e in cc
  | Some w ↦ λ f. rw (reached_on parts n q w k up is f) (rw f at e)
] refl

pub read_below : (parts : List Part) (n q k : ℕ) (part : Part) (c : Component) (readings : List Reading) → slice_get parts n ≡ Some part → component part k ≡ Some c → number_named parts c.name.items ≡ Some q
    → IsReadBelow parts n readings → IsReadBelow parts q readings
read_below parts n q k part c readings at has is read = record {
  len = read.len;
  are = λ m p r (path, e) there stands. read.are m p r (path ++ k ∷ [], reached_on parts n q m k path (rw (at, has) is) e) there stands;
}

-- As the items are put together.

pub read_push : (parts : List Part) (own : List Chan) (cs : List Component) (xs : List Item) (c : Component) (x : Item) → AreRead parts own cs xs → IsItem parts own c x → AreRead parts own (cs ++ c ∷ []) (xs ++ x ∷ [])
read_push parts own [] [] c x h is = inl (is, tt)
read_push parts own [] (y ∷ ys) c x h is = absurd h
read_push parts own (d ∷ ds) [] c x (nothing, more) is = inr (nothing, read_push parts own ds [] c x more is)
read_push parts own (d ∷ ds) (y ∷ ys) c x (inl (it, more)) is = inl (it, read_push parts own ds ys c x more is)
read_push parts own (d ∷ ds) (y ∷ ys) c x (inr (nothing, more)) is = inr (nothing, read_push parts own ds (y ∷ ys) c x more is)

pub read_skip : (parts : List Part) (own : List Chan) (cs : List Component) (xs : List Item) (c : Component) → AreRead parts own cs xs → AddsNothing parts c → AreRead parts own (cs ++ c ∷ []) xs
read_skip parts own [] [] c h nothing = (nothing, tt)
read_skip parts own [] (y ∷ ys) c h nothing = absurd h
read_skip parts own (d ∷ ds) [] c (before, more) nothing = (before, read_skip parts own ds [] c more nothing)
read_skip parts own (d ∷ ds) (y ∷ ys) c (inl (it, more)) nothing = inl (it, read_skip parts own ds ys c more nothing)
read_skip parts own (d ∷ ds) (y ∷ ys) c (inr (before, more)) nothing = inr (before, read_skip parts own ds (y ∷ ys) c more nothing)

-- what was read of the first parts
pub record ReadUpto (parts : List Part) (marks : List Bool) (n : ℕ) (readings : List Reading) : Type 0 where
  pub are : (k : ℕ) (p : Part) (r : Reading) → k < n → is_marked marks k ≡ true → slice_get parts k ≡ Some p → slice_get readings k ≡ Some r → AreRead parts p.channels.items p.components.items (told r)

-- One item more.

pub reading_of : (parts : List Part) (n : ℕ) (part : Part) (readings : List Reading) (r : Reading) → slice_get parts n ≡ Some part → IsReadBelow parts n readings → r ≡ get_or readings n r
    → AreRead parts part.channels.items part.components.items (told r)
reading_of parts n part readings r at read is =
    let w = slice_get_within parts n part at in
    read.are n part r ([], refl) at (slice_get_read readings (length readings) n r refl (omega (arith, w, read.len)) is)

pub reading_within : (parts : List Part) (n : ℕ) (part : Part) (readings : List Reading) → slice_get parts n ≡ Some part → IsReadBelow parts n readings → n < length readings
reading_within parts n part readings at read = let w = slice_get_within parts n part at in omega (arith, w, read.len)

pub so_far_start : (parts : List Part) (part : Part) (levels : List Level) (depth : ℕ) (d : Draft) (items list : List Item) → list ≡ items → AreRead parts part.channels.items part.components.items items → SoFar parts part levels depth d d list
so_far_start parts part levels depth d items list same read = record { at = 0; upto = upto_start parts part levels depth d; rest = rw same read }

drop_next : {X : Type 0} (xs : List X) (i : ℕ) (x : X) → i < length xs → x ≡ get_or xs i x → drop i xs ≡ x ∷ drop (suc i) xs
drop_next [] i x lt e = absurd (omega arith)
drop_next (y ∷ ys) zero x lt e = ap (λ z. z ∷ ys) (sym e)
drop_next (y ∷ ys) (suc i) x lt e = drop_next ys i x (omega arith) e

pub next_at : (parts : List Part) (part : Part) (levels : List Level) (depth : ℕ) (old new : Draft) (items : List Item) (i : ℕ) (x : Item) → IsShort parts part depth → SoFar parts part levels depth old new (drop i items)
    → i < length items → x ≡ get_or items i x → NextAt parts part levels depth old new x (drop (suc i) items)
next_at parts part levels depth old new items i x short s lt is = next_item parts part levels depth old new x (drop (suc i) items) short (rw (drop_next items i x lt is) at s)

pub all_at : (parts : List Part) (part : Part) (levels : List Level) (depth : ℕ) (old new : Draft) (items : List Item) (i : ℕ) → IsShort parts part depth → SoFar parts part levels depth old new (drop i items) → length items ≤ i
    → Flattened parts part levels depth old new × Counted parts part depth old new
all_at parts part levels depth old new items i short s le = all_items parts part levels depth old new short (rw (drop_past items i le) at s)

-- all that a part's components name is on channels of the net
pub numbers_fit : (levels : List Level) (n m : ℕ) (es : List ℕ) → FitsNet levels n m → m < 2 ^ 32 → All (λ k. (0 < k) × (k ≤ n)) es → All (λ k. net_number levels k < 2 ^ 32) es
numbers_fit levels n m es fits few within k d lt =
    let w = within k d lt in
    let le = fits (get_or es k d) w.0 w.1 in
    omega (arith, le, few)

pub leaf_within : (own : List Chan) (c : Component) (g : FlatComp) → IsFlat own c g → All (λ k. (0 < k) × (k ≤ length own)) g.chans.items
leaf_within own c g flat = rw flat.chans_are (all_arranged (IsChannel own) g.kind own c.entries.items flat.sound.within)

pub item_is : (parts : List Part) (own : List Chan) (c : Component) (x y : Item) → x ≡ y → IsItem parts own c x → IsItem parts own c y
item_is parts own c x y e h = subst (λ (z : Item). IsItem parts own c z) e h

-- an instance, its part being this one
pub record CopyOf (parts : List Part) (own : List Chan) (c : Component) (i : Instance) (p : Part) : Type 0 where
  pub is_named : named parts c.name.items ≡ Some p
  pub number : number_named parts c.name.items ≡ Some i.part
  pub chans_are : i.chans.items ≡ flattened c.entries.items
  pub sound : IsSoundInstance own c p

pub copy_of : (parts : List Part) (own : List Chan) (c : Component) (i : Instance) (p : Part) → IsCopy parts own c i → slice_get parts i.part ≡ Some p → CopyOf parts own c i p
copy_of parts own c i p h at =
    let e : p ≡ h.part = same_some h.stands at in
    record { is_named = rw e h.is_named; number = h.number; chans_are = h.chans_are; sound = rw e h.sound }

-- the copies from an instance's up fit the net that has its channels
pub inside_fits : (parts : List Part) (own : List Chan) (levels inside : List Level) (c : Component) (i : Instance) (p : Part) (old new : Draft) → CopyOf parts own c i p → CopyOn levels i.chans.items p old new inside
    → FitsNet levels (length own) (length old.chans) → FitsNet inside (length p.channels.items) (length new.chans)
inside_fits parts own levels inside c i p old new h on fits =
    let ports = on.ports_are ∙ h.chans_are in
    let many : length on.level.ports.now ≡ length p.ports.items = ap length ports ∙ h.sound.count in
    let within = subst (λ (es : List ℕ). All (IsChannel own) es) (sym ports) h.sound.within in
    let grown = ap length on.entered.chans_are ∙ length-append old.chans (drop (length p.ports.items) p.channels.items) in
    let own_count = length-drop (length p.ports.items) p.channels.items in
    rw on.inside_is (fits_inside levels on.level (length own) (length old.chans) (length new.chans) (length p.channels.items) fits within on.before_is (omega (arith, many, grown, own_count)))

pub short_less : (parts : List Part) (part p : Part) (k depth : ℕ) → 0 < depth → IsShort parts part depth → inner parts part k ≡ Some p → IsShort parts p (depth - 1)
short_less parts part p k zero pos short at = absurd (omega arith)
short_less parts part p k (suc m) pos short at = let e : suc m - 1 ≡ m = omega arith in rw e (short_inner parts part p k m short at)

pub upto_leaf : (parts : List Part) (part : Part) (levels : List Level) (depth : ℕ) (old mid new : Draft) (j : ℕ) (c : Component) (g : FlatComp) → j < length part.components.items → c ≡ get_or part.components.items j c
    → named parts c.name.items ≡ None → IsFlat part.channels.items c g → LeafOn levels g mid new → Upto parts part levels depth old mid j → Upto parts part levels depth old new (j + 1)
upto_leaf parts part levels depth old mid new j c g lt is none flat on u =
    let comps = part.components.items in
    let ends = leaf_ends part.channels.items levels c g on.added flat on.on in
    record {
      grows = λ top path before at len n.
          let so_far = u.grows top path before at len n in
          let stops = each_from 1 (visit parts path (walk parts depth)) (take j comps) in
          let n2 = copies_grow parts top before (flat_map own_places stops) path levels n in
          flatten_step parts top path before depth j comps c old mid new is lt so_far
          (leaf_step parts top path (before ++ flat_map own_places stops) depth (suc j) part.channels.items levels c g on.added mid new none (ap chans_of_copy at) n2 flat on.on
          on.kind_is on.sizes_are on.chans_are on.comps_are);
      counts = λ path. counts_step parts path depth j comps c old mid new lt is (u.counts path)
          (counts_leaf_step parts path depth (suc j) c on.added mid new none ends on.chans_are on.comps_are on.ends_are);
    }

pub upto_copy : (parts : List Part) (part p : Part) (levels inside : List Level) (depth : ℕ) (old mid full new : Draft) (j : ℕ) (c : Component) (i : Instance) → j < length part.components.items
    → c ≡ get_or part.components.items j c → CopyOf parts part.channels.items c i p → CopyOn levels i.chans.items p mid full inside → 0 < depth
    → Flattened parts p inside (depth - 1) full new → Counted parts p (depth - 1) full new → Upto parts part levels depth old mid j → Upto parts part levels depth old new (j + 1)
upto_copy parts part p levels inside depth old mid full new j c i lt is h on pos grown counted u =
    let comps = part.components.items in
    let has = component_at part comps j c refl is lt in
    let deeper = subst (λ (ls : List Level). Flattened parts p ls (depth - 1) full new) on.inside_is grown in
    record {
      grows = λ top path before at len n.
          let so_far = u.grows top path before at len n in
          let stops = each_from 1 (visit parts path (walk parts depth)) (take j comps) in
          let n2 = copies_grow parts top before (flat_map own_places stops) path levels n in
          let len2 = length_grown parts top before old mid stops so_far len in
          flatten_step parts top path before depth j comps c old mid new is lt so_far
          (copy_step parts top part p path (before ++ flat_map own_places stops) depth (suc j) c levels on.level mid full new h.is_named at has n2 h.sound (on.ports_are ∙ h.chans_are) on.before_is len2 on.entered pos deeper);
      counts = λ path. counts_step parts path depth j comps c old mid new lt is (u.counts path)
          (counts_copy_step parts path depth (suc j) c p mid full new h.is_named pos on.entered counted);
    }

-- the net only grows
pub upto_fits : (parts : List Part) (part : Part) (levels : List Level) (depth : ℕ) (old new : Draft) (j n : ℕ) → Upto parts part levels depth old new j → FitsNet levels n (length old.chans) → FitsNet levels n (length new.chans)
upto_fits parts part levels depth old new j n u fits c from to =
    let le = fits c from to in
    let grown = (u.counts []).chans_are in
    omega (arith, le, grown)

-- Why an item was not added.

pub refused_leaf : (own : List Chan) (c : Component) (g : FlatComp) (d : Draft) (n i : ℕ) (e : ElabError) → IsFlat own c g → (e ≡ Memory) ⊎ ((e ≡ TooBig) × IsFull d (length g.chans.items))
    → Refused own c (leaf_role c) d (leaf [] c) n i e
refused_leaf own c g d n i e flat (inl memory) = inl memory
refused_leaf own c g d n i e flat (inr (big, inl comps)) = inr (inr (big, inl (omega (arith, comps))))
refused_leaf own c g d n i e flat (inr (big, inr many)) =
    let ends = ap length flat.chans_are ∙ length-arranged g.kind own c.entries.items flat.sound.fits.singles_are flat.sound.fits.lists_are in
    let all = ap length (append-nil (flattened c.entries.items)) in
    inr (inr (big, inr (inr (omega (arith, many, ends, all)))))

pub refused_copy : (own : List Chan) (c : Component) (p : Part) (d : Draft) (n i : ℕ) (e : ElabError) → (e ≡ Memory) ⊎ ((e ≡ TooBig) × (most_chans < length d.chans + (length p.channels.items - length p.ports.items)))
    → Refused own c (instance p) d (copy (0 ∷ []) p) n i e
refused_copy own c p d n i e (inl memory) = inl memory
refused_copy own c p d n i e (inr (big, many)) =
    let a = length-append (drop (length p.ports.items) p.channels.items) (flat_map own_chans []) in
    let b = length-drop (length p.ports.items) p.channels.items in
    inr (inr (big, inr (inl (omega (arith, many, a, b)))))

-- The leaves before a part's first instance.

pub next_leaf : (parts : List Part) (part : Part) (levels : List Level) (depth : ℕ) (old new : Draft) (leaves : List FlatComp) (items : List Item) (i : ℕ) (g : FlatComp) → IsShort parts part depth
    → SoFar parts part levels depth old new (map Leaf (drop i leaves) ++ items) → i < length leaves → g ≡ get_or leaves i g → NextAt parts part levels depth old new (Leaf g) (map Leaf (drop (suc i) leaves) ++ items)
next_leaf parts part levels depth old new leaves items i g short s lt is =
    next_item parts part levels depth old new (Leaf g) (map Leaf (drop (suc i) leaves) ++ items) short (rw (drop_next leaves i g lt is) at s)

pub no_leaf : (parts : List Part) (part : Part) (levels : List Level) (depth : ℕ) (old new : Draft) (leaves : List FlatComp) (items : List Item) (i : ℕ) → SoFar parts part levels depth old new (map Leaf (drop i leaves) ++ items)
    → length leaves ≤ i → SoFar parts part levels depth old new items
no_leaf parts part levels depth old new leaves items i s le = rw (drop_past leaves i le) at s

-- one item more was read
pub told_leaf : (leaves : List FlatComp) (g : FlatComp) → map Leaf (leaves ++ g ∷ []) ++ [] ≡ (map Leaf leaves ++ []) ++ Leaf g ∷ []
told_leaf [] g = refl
told_leaf (f ∷ fs) g = ap (λ xs. Leaf f ∷ xs) (told_leaf fs g)

-- The top's leaves where it has no instance: they are the net's own.

pub ends_push : (fs : List FlatComp) (f : FlatComp) → ends_of (fs ++ f ∷ []) ≡ ends_of fs + length f.chans.items
ends_push [] f = omega arith
ends_push (g ∷ gs) f = let h = ends_push gs f in omega (arith, h)

same_numbers : (ks : List ℕ) → ks ≡ map (net_number []) ks
same_numbers [] = refl
same_numbers (k ∷ ks) = ap (λ xs. k ∷ xs) (same_numbers ks)

same_grown : (parts : List Part) (part : Part) (depth : ℕ) (old mid new : Draft) → new.chans ≡ mid.chans → new.comps ≡ mid.comps → new.ends ≡ mid.ends
    → Flattened parts part [] depth old mid × Counted parts part depth old mid → Flattened parts part [] depth old new × Counted parts part depth old new
same_grown parts part depth old mid new chans comps ends (grown, counted) = (
  λ top path before at len n.
      let g = grown top path before at len n in
      record { comps = g.comps; chans_are = chans ∙ g.chans_are; comps_are = comps ∙ g.comps_are; leaves = g.leaves },
  λ path.
      let k = counted path in
      record { comps_are = ap length comps ∙ k.comps_are; chans_are = ap length chans ∙ k.chans_are; ends_are = ends ∙ k.ends_are },
)

pub own_grown : (parts : List Part) (part : Part) (depth : ℕ) (old mid new : Draft) (left done : List FlatComp) → IsShort parts part depth
    → new.chans ≡ mid.chans → mid.comps ≡ done → new.comps ≡ done ++ left → new.ends ≡ mid.ends + ends_of left → SoFar parts part [] depth old mid (map Leaf left)
    → Flattened parts part [] depth old new × Counted parts part depth old new
own_grown parts part depth old mid new [] done short chans first all ends s =
    same_grown parts part depth old mid new chans (all ∙ append-nil done ∙ sym first) (omega (arith, ends)) (all_items parts part [] depth old mid short s)
own_grown parts part depth old mid new (g ∷ gs) done short chans first all ends s =
    let next = next_item parts part [] depth old mid (Leaf g) (map Leaf gs) short s in
    let one : Draft = record { chans = mid.chans; comps = done ++ g ∷ []; ends = mid.ends + length g.chans.items } in
    let on : LeafOn [] g mid one = record {
      added = g;
      on = same_numbers g.chans.items;
      kind_is = refl;
      sizes_are = refl;
      chans_are = refl;
      comps_are = ap (λ xs. xs ++ g ∷ []) (sym first);
      ends_are = refl;
    } in
    own_grown parts part depth old one new gs (done ++ g ∷ []) short chans refl (all ∙ sym (append_assoc done (g ∷ []) gs)) (omega (arith, ends))
    (record {
      at = next.at + 1;
      upto = upto_leaf parts part [] depth old mid one next.at next.comp g next.lt next.is next.item.0 next.item.1 on next.upto;
      rest = next.rest;
    })

pub own_whole : (parts : List Part) (n : ℕ) (part : Part) (readings : List Reading) (comps : List FlatComp) (ends : ℕ) (empty mid new : Draft) → slice_get parts n ≡ Some part → IsReadBelow parts n readings
    → IsShort parts part most_instances → AreOwn readings n comps ends → empty.chans ≡ [] → empty.comps ≡ [] → empty.ends ≡ 0 → Entered empty mid part 0
    → new.chans ≡ mid.chans → new.comps ≡ comps → new.ends ≡ ends → IsNet parts part new
own_whole parts n part readings comps ends empty mid new at read short own no_chans no_comps no_ends entered chans all count =
    let told_of = read.are n part own.reading ([], refl) at own.stands in
    let start = so_far_start parts part [] most_instances mid (told own.reading) (map Leaf comps) (sym own.all) told_of in
    let mid_ends = entered.ends_are in
    let own_ends = own.ends_are in
    let (grown, counted) = own_grown parts part most_instances mid mid new comps [] short chans (entered.comps_are ∙ no_comps) all (omega (arith, count, own_ends, mid_ends, no_ends)) start in
    whole_net parts part empty mid new no_chans no_comps no_ends entered grown counted

drop_more : {X : Type 0} (xs : List X) (k : ℕ) → drop (suc k) xs ≡ drop 1 (drop k xs)
drop_more [] zero = refl
drop_more [] (suc k) = refl
drop_more (x ∷ xs) zero = refl
drop_more (x ∷ xs) (suc k) = drop_more xs k

-- what is alike from one place on is alike from the next on
pub same_above : {X : Type 0} (xs ys : List X) (depth : ℕ) → 0 < depth → drop (depth - 1) xs ≡ drop (depth - 1) ys → drop depth xs ≡ drop depth ys
same_above {X = X} xs ys depth pos e =
    let is : suc (depth - 1) ≡ depth = omega arith in
    subst (λ (n : ℕ). drop n xs ≡ drop n ys) is (drop_more xs (depth - 1) ∙ ap (λ (l : List X). drop 1 l) e ∙ sym (drop_more ys (depth - 1)))
