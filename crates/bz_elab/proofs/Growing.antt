-- The net as far as the walk has come.
use Rattle.std.proofs.Common.{◌≡◌, ℕ, zero, suc, ◌+◌, ◌-◌, ◌<◌, ◌≤◌, true, false, Option, None, Some, List, [], ◌∷◌, ◌++◌, length, map, drop, take, inl, inr, refl, sym, ◌∙◌, ap, subst, arith, get_or, append_assoc, length-append, length-drop, slice_get, nat_le}
use Rattle.std.specs.List.{flat_map, All}
use Rattle.std.proofs.lemmas.Grind.{flat_map-append}
use Rattle.std.proofs.lemmas.List.{append-nil, take_more, get_or-drop, length-take}
use Rattle.std.proofs.lemmas.Bool.Decides.{leb_tells}
use Rattle.std.proofs.lemmas.List.Elements.{All-head, All-tail}
use Rattle.std.proofs.lemmas.Option.{slice_get_read}
use Rattle.bz_model.specs.declared.channel.Chan.{Chan}
use Rattle.bz_breeze_records.specs.declared.part.Part.{Part}
use Rattle.bz_breeze_records.specs.declared.part.Component.{Component}
use Rattle.bz_flat.specs.declared.flat.FlatComp.{FlatComp}
use Rattle.bz_elab.specs.declared.walk.Draft.{Draft}
use Rattle.bz_elab.specs.declared.walk.Level.{Level}
use Rattle.bz_elab.specs.Entries.{flattened, arranged}
use Rattle.bz_elab.specs.Paths.{Path, Place, Stop, copy, leaf, named, component, copied, joined, of_kind, each_from, visit, walk, stops, own_chans, own_places, places_from, ports_at, most_instances, chans_at, chans_of_copy}
use Rattle.bz_elab.specs.Growth.{IsBare, IsNumber, AreNumbers, AreLeaves, IsNet, net_number, FitsNet, CopyNumbers, Grows, Flattened, below_copy, Entered, IsFlat, IsSoundInstance, Counts, Counted}
use Rattle.bz_elab.specs.Refusals.{own_comps, IsChannel}
use Rattle.bz_elab.proofs.Counting.{each_from-push, counts_then, counts_copy}
use Rattle.bz_elab.proofs.Slots.{all_arranged}

places_from-length : (path : Path) (c n : ℕ) → length (places_from path c n) ≡ n
places_from-length path c zero = refl
places_from-length path c (suc n) = ap suc (places_from-length path (suc c) n)

own_length : (s : Stop) → length (own_places s) ≡ length (own_chans s)
own_length (copy path part) = places_from-length path (suc (ports_at path part)) (length part.channels.items - ports_at path part) ∙ sym (length-drop (ports_at path part) part.channels.items)
own_length (leaf path c) = refl

pub owns_length : (ss : List Stop) → length (flat_map own_places ss) ≡ length (flat_map own_chans ss)
owns_length [] = refl
owns_length (s ∷ ss) = let a = own_length s in let b = owns_length ss in
    length-append (own_places s) (flat_map own_places ss) ∙ (ap (λ n. n + length (flat_map own_places ss)) a ∙ (ap (λ n. length (own_chans s) + n) b ∙ sym (length-append (own_chans s) (flat_map own_chans ss))))

pub slice_get-left : {X : Type 0} (xs ys : List X) (i : ℕ) (x : X) → slice_get xs i ≡ Some x → slice_get (xs ++ ys) i ≡ Some x
slice_get-left [] ys i x e = cc
slice_get-left (z ∷ zs) ys zero x e = e
slice_get-left (z ∷ zs) ys (suc i) x e = slice_get-left zs ys i x e

pub slice_get-right : {X : Type 0} (xs ys : List X) (j : ℕ) → slice_get (xs ++ ys) (length xs + j) ≡ slice_get ys j
slice_get-right [] ys j = let e : 0 + j ≡ j = omega arith in rw e refl
slice_get-right (z ∷ zs) ys j = let e : suc (length zs) + j ≡ suc (length zs + j) = omega arith in rw e (slice_get-right zs ys j)

pub number_grows : (before more : List Place) (p : Place) (k : ℕ) → IsNumber before p k → IsNumber (before ++ more) p k
number_grows before more p k h = (h.0, slice_get-left before more (k - 1) p h.1)

pub numbers_grow : (before more : List Place) (ps : List Place) (ks : List ℕ) → AreNumbers before ps ks → AreNumbers (before ++ more) ps ks
numbers_grow before more [] [] h = tt
numbers_grow before more [] (k ∷ ks) h = absurd h
numbers_grow before more (p ∷ ps) [] h = absurd h
numbers_grow before more (p ∷ ps) (k ∷ ks) h = (number_grows before more p k h.0, numbers_grow before more ps ks h.1)

leaves_grow : (parts : List Part) (top : Part) (before more : List Place) (ss : List Stop) (fs : List FlatComp) → AreLeaves parts top before ss fs → AreLeaves parts top (before ++ more) ss fs
leaves_grow parts top before more [] [] h = tt
leaves_grow parts top before more [] (f ∷ fs) h = absurd h
leaves_grow parts top before more (copy path part ∷ ss) fs h = leaves_grow parts top before more ss fs h
leaves_grow parts top before more (leaf path c ∷ ss) [] h = absurd h
leaves_grow parts top before more (leaf path c ∷ ss) (f ∷ fs) h =
    (record { role_is = h.0.role_is; sizes_are = h.0.sizes_are; chans = numbers_grow before more _ _ h.0.chans }, leaves_grow parts top before more ss fs h.1)

leaves_then : (parts : List Part) (top : Part) (places : List Place) (ss ts : List Stop) (fs gs : List FlatComp) → AreLeaves parts top places ss fs → AreLeaves parts top places ts gs → AreLeaves parts top places (ss ++ ts) (fs ++ gs)
leaves_then parts top places [] ts [] gs a b = b
leaves_then parts top places [] ts (f ∷ fs) gs a b = absurd a
leaves_then parts top places (copy path part ∷ ss) ts fs gs a b = leaves_then parts top places ss ts fs gs a b
leaves_then parts top places (leaf path c ∷ ss) ts [] gs a b = absurd a
leaves_then parts top places (leaf path c ∷ ss) ts (f ∷ fs) gs a b = (a.0, leaves_then parts top places ss ts fs gs a.1 b)

pub grows_nothing : (parts : List Part) (top : Part) (before : List Place) (net : Draft) → Grows parts top before net net []
grows_nothing parts top before net = record {
  comps = [];
  chans_are = sym (append-nil net.chans);
  comps_are = sym (append-nil net.comps);
  leaves = tt;
}

no_leaves : (parts : List Part) (top : Part) (places : List Place) (ss : List Stop) → flat_map own_comps ss ≡ [] → AreLeaves parts top places ss []
no_leaves parts top places [] e = tt
no_leaves parts top places (copy path part ∷ ss) e = no_leaves parts top places ss e
no_leaves parts top places (leaf path c ∷ ss) e = cc

-- stops without components and channels
pub grows_bare : (parts : List Part) (top : Part) (before : List Place) (net : Draft) (ss : List Stop) → IsBare ss → Grows parts top before net net ss
grows_bare parts top before net ss b = record {
  comps = [];
  chans_are = rw b.chans (sym (append-nil net.chans));
  comps_are = sym (append-nil net.comps);
  leaves = no_leaves parts top _ ss b.comps;
}

pub grows_then : (parts : List Part) (top : Part) (before : List Place) (old mid new : Draft) (ss ts : List Stop)
    → Grows parts top before old mid ss → Grows parts top (before ++ flat_map own_places ss) mid new ts → Grows parts top before old new (ss ++ ts)
grows_then parts top before old mid new ss ts a b =
    let places : before ++ flat_map own_places (ss ++ ts) ≡ (before ++ flat_map own_places ss) ++ flat_map own_places ts =
    ap (λ x. before ++ x) (flat_map-append own_places ss ts) ∙ sym (append_assoc before (flat_map own_places ss) (flat_map own_places ts)) in
    record {
      comps = a.comps ++ b.comps;
      chans_are = b.chans_are ∙ ap (λ x. x ++ flat_map own_chans ts) a.chans_are ∙ append_assoc old.chans (flat_map own_chans ss) (flat_map own_chans ts) ∙ ap (λ x. old.chans ++ x) (sym (flat_map-append own_chans ss ts));
      comps_are = b.comps_are ∙ ap (λ x. x ++ b.comps) a.comps_are ∙ append_assoc old.comps a.comps b.comps;
      leaves = rw places (leaves_then parts top _ ss ts a.comps b.comps (leaves_grow parts top _ (flat_map own_places ts) ss a.comps a.leaves) b.leaves);
    }

-- a channel of a part is one of its copy
pub in_copy : (parts : List Part) (top part : Part) (path : Path) (k : ℕ) → copied parts top path ≡ Some part → k ≤ length part.channels.items → k ≤ length (chans_at parts top path)
in_copy parts top part path k at le = subst (λ (o : Option Part). k ≤ length (chans_of_copy o)) (sym at) le

of_copy : (parts : List Part) (top part : Part) (path : Path) (k : ℕ) → copied parts top path ≡ Some part → k ≤ length (chans_at parts top path) → k ≤ length part.channels.items
of_copy parts top part path k at le = subst (λ (o : Option Part). k ≤ length (chans_of_copy o)) at le

actual_numbers : (parts : List Part) (top : Part) (before : List Place) (path : Path) (levels : List Level) (es : List ℕ) → CopyNumbers parts top before path levels → All (IsChannel (chans_at parts top path)) es
    → AreNumbers before (map (joined parts top path) es) (map (net_number levels) es)
actual_numbers parts top before path levels [] n h = tt
actual_numbers parts top before path levels (e ∷ es) n h =
    let w = All-head (IsChannel (chans_at parts top path)) e es h in
    (n e w.0 w.1, actual_numbers parts top before path levels es n (All-tail (IsChannel (chans_at parts top path)) e es h))

-- one leaf more: f is g, on the net's channels in place of its part's
pub grows_leaf : (parts : List Part) (top : Part) (before : List Place) (path : Path) (own : List Chan) (outer : List Level) (c : Component) (g f : FlatComp) (old new : Draft)
    → chans_at parts top path ≡ own → CopyNumbers parts top before path outer → IsFlat own c g → f.chans.items ≡ map (net_number outer) g.chans.items → f.kind ≡ g.kind → f.sizes ≡ g.sizes
    → new.chans ≡ old.chans → new.comps ≡ old.comps ++ f ∷ [] → Grows parts top before old new (leaf path c ∷ [])
grows_leaf parts top before path own outer c g f old new here n flat on kind sizes same push =
    let inside = subst (λ (es : List ℕ). All (IsChannel own) es) (sym flat.chans_are) (all_arranged (IsChannel own) g.kind own c.entries.items flat.sound.within) in
    let within = subst (λ (xs : List Chan). All (IsChannel xs) g.chans.items) (sym here) inside in
    let numbers = subst (λ (ks : List ℕ). AreNumbers before (map (joined parts top path) g.chans.items) ks) (sym on) (actual_numbers parts top before path outer g.chans.items n within) in
    let order : g.chans.items ≡ arranged f.kind (chans_at parts top path) c.entries.items =
    flat.chans_are ∙ ap (λ k. arranged k own c.entries.items) (sym kind) ∙ ap (λ chans. arranged f.kind chans c.entries.items) (sym here) in
    record {
      comps = f ∷ [];
      chans_are = same ∙ sym (append-nil old.chans);
      comps_are = push;
      leaves = rw append-nil (
        record {
          role_is = flat.role_is ∙ ap of_kind (sym kind);
          sizes_are = sizes ∙ flat.sizes_are;
          chans = subst (λ es. AreNumbers before (map (joined parts top path) es) f.chans.items) order numbers;
        },
        tt,
      );
    }

pub grows_copy : (parts : List Part) (top : Part) (before : List Place) (i : ℕ) (up : Path) (part : Part) (old new : Draft)
    → Entered old new part (length part.ports.items) → Grows parts top before old new (copy (i ∷ up) part ∷ [])
grows_copy parts top before i up part old new e = record {
  comps = [];
  chans_are = e.chans_are ∙ ap (λ x. old.chans ++ x) (sym (append-nil (drop (length part.ports.items) part.channels.items)));
  comps_are = e.comps_are ∙ sym (append-nil old.comps);
  leaves = tt;
}

pub drop_push : {X : Type 0} (xs : List X) (p i : ℕ) (d : X) → p ≤ i → i < length xs → take (i + 1 - p) (drop p xs) ≡ take (i - p) (drop p xs) ++ get_or xs i d ∷ []
drop_push xs p i d h lt =
    let e : i + 1 - p ≡ (i - p) + 1 = omega arith in
    let f : p + (i - p) ≡ i = omega arith in
    let n : i - p < length (drop p xs) = omega (arith, length-drop p xs) in
    let g : get_or (drop p xs) (i - p) d ≡ get_or xs i d = get_or-drop p xs (i - p) d ∙ ap (λ j. get_or xs j d) f in
    rw (e, take_more (drop p xs) (i - p) d n, g) refl

pub take_whole : {X : Type 0} (xs : List X) (n : ℕ) → length xs ≤ n → take n xs ≡ xs
take_whole [] zero h = refl
take_whole [] (suc n) h = refl
take_whole (x ∷ xs) zero h = absurd (omega arith)
take_whole (x ∷ xs) (suc n) h = ap (λ ys. x ∷ ys) (take_whole xs n (omega arith))

abbrev place : Path → ℕ → Place
place path number = record { path = path; number = number }

places_at : (path : Path) (c n j : ℕ) → j < n → slice_get (places_from path c n) j ≡ Some (place path (c + j))
places_at path c zero j h = absurd (omega arith)
places_at path c (suc n) zero h = let e : c + 0 ≡ c = omega arith in rw e refl
places_at path c (suc n) (suc j) h = let e : suc c + j ≡ c + suc j = omega arith in rw (← e) (places_at path (suc c) n j (omega arith))

-- the copy at i ∷ up is of `part`, an instance's
pub copied_inner : (parts : List Part) (top part in_part : Part) (up : Path) (i : ℕ) (c : Component) → copied parts top up ≡ Some part → component part i ≡ Some c → named parts c.name.items ≡ Some in_part
    → copied parts top (i ∷ up) ≡ Some in_part
copied_inner parts top part in_part up i c at has is = rw (at, has) is

le_true : (j k : ℕ) → j ≤ k → nat_le j k ≡ true
le_true j k h = elim (leb_tells j k) [ inl a ↦ a.0 | inr b ↦ absurd (omega (arith, h, b.1)) ]

le_false : (j k : ℕ) → k < j → nat_le j k ≡ false
le_false j k h = elim (leb_tells j k) [ inl a ↦ absurd (omega (arith, h, a.1)) | inr b ↦ b.0 ]

-- a port of the inner copy is where its entry is, another channel is the copy's own
joined_port : (parts : List Part) (top part in_part : Part) (up : Path) (i : ℕ) (c : Component) (k : ℕ) → copied parts top up ≡ Some part → component part i ≡ Some c → named parts c.name.items ≡ Some in_part
    → k ≤ length in_part.ports.items → joined parts top (i ∷ up) k ≡ joined parts top up (get_or (flattened c.entries.items) (k - 1) 0)
joined_port parts top part in_part up i c k at has is le =
    let e = le_true k (length in_part.ports.items) le in
    rw (copied_inner parts top part in_part up i c at has is, e, at, has) refl

joined_own : (parts : List Part) (top part in_part : Part) (up : Path) (i : ℕ) (c : Component) (k : ℕ) → copied parts top up ≡ Some part → component part i ≡ Some c → named parts c.name.items ≡ Some in_part
    → length in_part.ports.items < k → joined parts top (i ∷ up) k ≡ place (i ∷ up) k
joined_own parts top part in_part up i c k at has is lt =
    let e = le_false k (length in_part.ports.items) lt in
    rw (copied_inner parts top part in_part up i c at has is, e) refl

pub copy_numbers : (parts : List Part) (top part in_part : Part) (before : List Place) (up : Path) (i : ℕ) (c : Component) (old : Draft) (outer : List Level) (level : Level)
    → copied parts top up ≡ Some part → component part i ≡ Some c → named parts c.name.items ≡ Some in_part
    → CopyNumbers parts top before up outer → IsSoundInstance part.channels.items c in_part → level.ports.now ≡ flattened c.entries.items → level.before ≡ length old.chans
    → length before ≡ length old.chans → CopyNumbers parts top (before ++ flat_map own_places (copy (i ∷ up) in_part ∷ [])) (i ∷ up) (level ∷ outer)
copy_numbers parts top part in_part before up i c old outer level at has is n sound ports_are before_is len k from to =
    let ports = length in_part.ports.items in
    let own = length in_part.channels.items - ports in
    let places = places_from (i ∷ up) (suc ports) own in
    let entries = flattened c.entries.items in
    let many : length level.ports.now ≡ ports = ap length ports_are ∙ sound.count in
    let le = of_copy parts top in_part (i ∷ up) k (copied_inner parts top part in_part up i c at has is) to in
    elim (leb_tells k (length level.ports.now)) [
      | inl h ↦
          let e = get_or entries (k - 1) 0 in
          let w : IsChannel part.channels.items e = sound.within (k - 1) 0 (omega (arith, h.1, many, sound.count, from)) in
          rw (joined_port parts top part in_part up i c k at has is (omega (arith, h.1, many)), h.0, ports_are)
          (number_grows before (flat_map own_places (copy (i ∷ up) in_part ∷ [])) _ _ (n e w.0 (in_copy parts top part up e at w.1)))
      | inr h ↦
          let j = k - 1 - ports in
          let s : j < own = omega (arith, h.1, many, le) in
          let q : level.before + (k - length level.ports.now) - 1 ≡ length before + j = omega (arith, h.1, many, before_is, len) in
          let r : suc ports + j ≡ k = omega (arith, h.1, many) in
          let stands : slice_get (before ++ (places ++ [])) (length before + j) ≡ Some (place (i ∷ up) k) =
          slice_get-right before (places ++ []) j ∙ rw append-nil (places_at (i ∷ up) (suc ports) own j s ∙ ap (λ x. Some (place (i ∷ up) x)) r) in
          rw (joined_own parts top part in_part up i c k at has is (omega (arith, h.1, many)), h.0, q) (omega (arith, h.1), stands)
    ]

-- what is on the way to a copy stays among the channels of the net
pub fits_inside : (levels : List Level) (level : Level) (n m k : ℕ) (own : ℕ) → FitsNet levels n m → All (λ e. (0 < e) × (e ≤ n)) level.ports.now → level.before ≡ m → m + (own - length level.ports.now) ≡ k
    → FitsNet (level ∷ levels) own k
fits_inside levels level n m k own fits within before_is all c from to = elim (leb_tells c (length level.ports.now)) [
  | inl h ↦
      let e = get_or level.ports.now (c - 1) 0 in
      let w : (0 < e) × (e ≤ n) = within (c - 1) 0 (omega (arith, h.1, from)) in
      let le = fits e w.0 w.1 in
      rw h.0 (omega (arith, le, all))
  | inr h ↦ rw h.0 (omega (arith, h.1, before_is, all, to))
]

pub copies_grow : (parts : List Part) (top : Part) (before more : List Place) (path : Path) (levels : List Level) → CopyNumbers parts top before path levels → CopyNumbers parts top (before ++ more) path levels
copies_grow parts top before more path levels n c from to = number_grows before more _ _ (n c from to)

pub length_grown : (parts : List Part) (top : Part) (before : List Place) (old new : Draft) (ss : List Stop) → Grows parts top before old new ss → length before ≡ length old.chans
    → length (before ++ flat_map own_places ss) ≡ length new.chans
length_grown parts top before old new ss g len =
    length-append before (flat_map own_places ss) ∙ (ap (λ n. n + length (flat_map own_places ss)) len ∙ (ap (λ n. length old.chans + n) (owns_length ss) ∙ (sym (length-append old.chans (flat_map own_chans ss)) ∙ ap length (sym g.chans_are))))

-- one component more
pub flatten_step : (parts : List Part) (top : Part) (path : Path) (before : List Place) (depth idx : ℕ) (items : List Component) (x : Component) (old mid new : Draft)
    → x ≡ get_or items idx x → idx < length items
    → Grows parts top before old mid (each_from 1 (visit parts path (walk parts depth)) (take idx items))
    → Grows parts top (before ++ flat_map own_places (each_from 1 (visit parts path (walk parts depth)) (take idx items))) mid new (visit parts path (walk parts depth) (suc idx) x)
    → Grows parts top before old new (each_from 1 (visit parts path (walk parts depth)) (take (idx + 1) items))
flatten_step parts top path before depth idx items x old mid new is lt a b =
    let V : ℕ → Component → List Stop = visit parts path (walk parts depth) in
    let n : 1 + length (take idx items) ≡ suc idx = omega (arith, length-take idx items) in
    let e : take (idx + 1) items ≡ take idx items ++ x ∷ [] = take_more items idx x lt ∙ ap (λ y. take idx items ++ y ∷ []) (sym is) in
    let f : each_from 1 V (take (idx + 1) items) ≡ each_from 1 V (take idx items) ++ V (suc idx) x =
    ap (each_from 1 V) e ∙ each_from-push 1 V (take idx items) x ∙ ap (λ j. each_from 1 V (take idx items) ++ V j x) n in
    subst (λ ss. Grows parts top before old new ss) (sym f) (grows_then parts top before old mid new _ _ a b)

pub leaf_step : (parts : List Part) (top : Part) (path : Path) (before : List Place) (depth i : ℕ) (own : List Chan) (outer : List Level) (x : Component) (g f : FlatComp) (old new : Draft)
    → named parts x.name.items ≡ None → chans_at parts top path ≡ own → CopyNumbers parts top before path outer → IsFlat own x g → f.chans.items ≡ map (net_number outer) g.chans.items → f.kind ≡ g.kind → f.sizes ≡ g.sizes
    → new.chans ≡ old.chans → new.comps ≡ old.comps ++ f ∷ [] → Grows parts top before old new (visit parts path (walk parts depth) i x)
leaf_step parts top path before depth i own outer x g f old new none here n flat on kind sizes same push =
    rw (none, visit) (grows_leaf parts top before path own outer x g f old new here n flat on kind sizes same push)

pub copy_step : (parts : List Part) (top part in_part : Part) (path : Path) (before : List Place) (depth i : ℕ) (x : Component) (outer : List Level) (level : Level) (old mid new : Draft)
    → named parts x.name.items ≡ Some in_part → copied parts top path ≡ Some part → component part i ≡ Some x
    → CopyNumbers parts top before path outer → IsSoundInstance part.channels.items x in_part → level.ports.now ≡ flattened x.entries.items → level.before ≡ length old.chans
    → length before ≡ length old.chans → Entered old mid in_part (length in_part.ports.items) → 0 < depth → Flattened parts in_part (level ∷ outer) (depth - 1) mid new
    → Grows parts top before old new (visit parts path (walk parts depth) i x)
copy_step parts top part in_part path before zero i x outer level old mid new is at has n sound ports_are before_is len entered pos deeper = absurd (omega arith)
copy_step parts top part in_part path before (suc m) i x outer level old mid new is at has n sound ports_are before_is len entered pos deeper =
    let here = grows_copy parts top before i path in_part old mid entered in
    let e : suc m - 1 ≡ m = omega arith in
    let below = rw e at (deeper top (i ∷ path) (before ++ flat_map own_places (copy (i ∷ path) in_part ∷ [])) (copied_inner parts top part in_part path i x at has is)
    (length_grown parts top before old mid (copy (i ∷ path) in_part ∷ []) here len)
    (copy_numbers parts top part in_part before path i x old outer level at has is n sound ports_are before_is len)) in
    rw (is, visit) (grows_then parts top before old mid new (copy (i ∷ path) in_part ∷ []) _ here below)

-- component idx + 1 is that of the list
pub component_at : (part : Part) (items : List Component) (idx : ℕ) (x : Component) → items ≡ part.components.items → x ≡ get_or items idx x → idx < length items → component part (suc idx) ≡ Some x
component_at part items idx x same is lt = rw (← same) (slice_get_read items (length items) idx x refl lt is)

pub pushed : {X : Type 0} (old mid new a b : List X) (x y : X) → new ≡ mid ++ x ∷ [] → mid ≡ old ++ a → x ≡ y → b ≡ a ++ y ∷ [] → new ≡ old ++ b
pushed old mid new a b x y e f g h = e ∙ (ap (λ zs. zs ++ x ∷ []) f ∙ (append_assoc old a (x ∷ []) ∙ (ap (λ z. old ++ (a ++ z ∷ [])) g ∙ ap (λ zs. old ++ zs) (sym h))))

-- the whole net
pub top_numbers : (parts : List Part) (top : Part) → CopyNumbers parts top (flat_map own_places (copy [] top ∷ [])) [] []
top_numbers parts top c from to =
    let n = length top.channels.items in
    let z : n - 0 ≡ n = omega arith in
    let j : 1 + (c - 1) ≡ c = omega arith in
    let stands : slice_get (places_from [] 1 (n - 0) ++ []) (c - 1) ≡ Some (place [] c) =
    rw (append-nil, z) (places_at [] 1 n (c - 1) (omega (arith, from, to)) ∙ ap (λ x. Some (place [] x)) j) in
    (from, stands)

pub top_fits : (top : Part) (n : ℕ) → n ≡ length top.channels.items → FitsNet [] (length top.channels.items) n
top_fits top n is c from to = omega (arith, is, to)

pub whole_net : (parts : List Part) (top : Part) (empty mid new : Draft) → empty.chans ≡ [] → empty.comps ≡ [] → empty.ends ≡ 0 → Entered empty mid top 0
    → Flattened parts top [] most_instances mid new → Counted parts top most_instances mid new → IsNet parts top new
unfolding stops
whole_net parts top empty mid new no_chans no_comps no_ends entered deeper counted =
    let first = copy [] top in
    let rest = below_copy parts [] most_instances top in
    let here : Grows parts top [] empty mid (first ∷ []) = record {
      comps = [];
      chans_are = entered.chans_are ∙ ap (λ x. empty.chans ++ x) (sym (append-nil top.channels.items));
      comps_are = entered.comps_are ∙ sym (append-nil empty.comps);
      leaves = tt;
    } in
    let below = deeper top [] (flat_map own_places (first ∷ [])) refl (length_grown parts top [] empty mid (first ∷ []) here (sym (ap length no_chans))) (top_numbers parts top) in
    let all = grows_then parts top [] empty mid new (first ∷ []) rest here below in
    let counts : Counts empty new (first ∷ rest) = counts_then empty mid new (first ∷ []) rest (counts_copy empty mid [] top entered) (counted []) in
    record {
      chans_are = all.chans_are ∙ ap (λ x. x ++ flat_map own_chans (first ∷ rest)) no_chans;
      comps_len = let n = counts.comps_are in let m = ap length no_comps in omega (arith, n, m);
      ends_are = let n = counts.ends_are in omega (arith, n, no_ends);
      leaves = let e : new.comps ≡ all.comps = all.comps_are ∙ ap (λ x. x ++ all.comps) no_comps in rw e all.leaves;
    }

-- the top's channels are all its part's
pub top_length : (empty mid : Draft) (top : Part) → empty.chans ≡ [] → Entered empty mid top 0 → length mid.chans ≡ length top.channels.items
top_length empty mid top none e =
    let n = ap length e.chans_are in
    let m = length-append empty.chans (drop 0 top.channels.items) in
    let z = ap length none in
    let d = length-drop 0 top.channels.items in
    omega (arith, n, m, z, d)
