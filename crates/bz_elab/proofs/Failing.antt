-- Why the walk ends early.
use Rattle.std.proofs.Common.{◌≡◌, ℕ, zero, suc, ◌+◌, ◌-◌, ◌<◌, None, Some, List, [], ◌∷◌, length, ◌⊎◌, inl, inr, refl, sym, ◌∙◌, ap, subst, arith, slice_get, take, drop, get_or, ◌++◌, append_assoc, add-one, length-append}
use Rattle.bz_breeze_records.specs.declared.part.Part.{Part}
use Rattle.bz_breeze_records.specs.declared.part.Component.{Component}
use Rattle.std.specs.List.{flat_map}
use Rattle.std.proofs.lemmas.List.{append-nil}
use Rattle.bz_flat.specs.declared.error.ElabError.{ElabError}
use Rattle.bz_flat.specs.declared.error.ElabError.TheVariants.{TooBig, TooDeep, Memory}
use Rattle.bz_elab.specs.declared.error.Fault.{Fault}
use Rattle.bz_elab.specs.declared.error.Fault.TheVariants as fault
use Rattle.bz_elab.specs.declared.walk.Draft.{Draft}
use Rattle.bz_elab.specs.Faults.{error_at}
use Rattle.bz_elab.specs.Paths.{Path, Role, instance, Stop, copy, leaf, named, component, copied, role, role_by, leaf_role, each_from, visit, walk, stops, own_chans, most_instances}
use Rattle.bz_elab.specs.Refusals.{HasFault, At, IsTooMany, AppliesTo}
use Rattle.bz_flat.specs.Wires.{most_chans}
use Rattle.bz_elab.specs.Growth.{EndsWalk, Fails, Refused, Counts, Entered, below_copy}
use Rattle.bz_elab.proofs.Counting.{each_from-split, too_many, ends_up, counts_then, counts_copy}
use Rattle.bz_elab.proofs.Growing.{copied_inner, component_at}

-- a fault of a component of a copy
pub fault_ends : (parts : List Part) (top : Part) (old : Draft) (ss : List Stop) (f : Fault) (n i : ℕ) → (at : At parts top n i) → HasFault at.part.channels.items at.comp (role parts at.comp) f
    → EndsWalk parts top old ss (error_at f n i)
fault_ends parts top old ss fault.UnknownComponent n i at h = (at, h)
fault_ends parts top old ss fault.BadParameter n i at h = (at, h)
fault_ends parts top old ss fault.PortCount n i at h = (at, h)
fault_ends parts top old ss fault.BadChannel n i at h = (at, h)
fault_ends parts top old ss fault.KindMismatch n i at h = (at, h)
fault_ends parts top old ss fault.WidthMismatch n i at h = (at, h)
fault_ends parts top old ss fault.Memory n i at h = tt

-- one instance more than a path may have
pub deep_ends : (parts : List Part) (top part in_part : Part) (old : Draft) (ss : List Stop) (path : Path) (i : ℕ) (c : Component) → copied parts top path ≡ Some part → component part i ≡ Some c
    → named parts c.name.items ≡ Some in_part → length path + 0 ≡ most_instances → EndsWalk parts top old ss TooDeep
deep_ends parts top part in_part old ss path i c at has is full = record {
  path = i ∷ path;
  part = in_part;
  reached = copied_inner parts top part in_part path i c at has is;
  long = omega arith;
}

-- the stops below a copy, up to a component and no farther
abbrev pub stops_before : List Part → Path → ℕ → List Component → ℕ → List Stop
stops_before parts path depth items i = each_from 1 (visit parts path (walk parts depth)) (take i items)

-- too many at some stops of a component are too many in the whole
in_whole : (parts : List Part) (part : Part) (path : Path) (depth i : ℕ) (items : List Component) (x : Component) (old mid : Draft) (pre ts post : List Stop)
    → items ≡ part.components.items → i < length items → x ≡ get_or items i x → visit parts path (walk parts depth) (suc i) x ≡ pre ++ (ts ++ post)
    → Counts old mid (stops_before parts path depth items i ++ pre) → IsTooMany (length mid.comps) (length mid.chans) mid.ends ts
    → IsTooMany (length old.comps) (length old.chans) old.ends (below_copy parts path depth part)
in_whole parts part path depth i items x old mid pre ts post same lt is here counts many =
    let V : ℕ → Component → List Stop = visit parts path (walk parts depth) in
    let so_far = stops_before parts path depth items i in
    let rest = each_from (suc (suc i)) V (drop (i + 1) items) in
    let whole : below_copy parts path depth part ≡ (so_far ++ pre) ++ (ts ++ (post ++ rest)) =
    ap (each_from 1 V) (sym same) ∙ (each_from-split V items i x lt is ∙ (ap (λ ss. so_far ++ (ss ++ rest)) here ∙ simp append_assoc)) in
    rw whole (too_many old mid (so_far ++ pre) ts (post ++ rest) counts many)

role_none : (parts : List Part) (x : Component) → named parts x.name.items ≡ None → role parts x ≡ leaf_role x
role_none parts x e = ap (λ o. role_by o x) e

role_some : (parts : List Part) (x : Component) (q : Part) → named parts x.name.items ≡ Some q → role parts x ≡ instance q
role_some parts x q e = ap (λ o. role_by o x) e

-- a component that was refused, whose stops begin with this one
refused_fails : (parts : List Part) (part : Part) (n depth i : ℕ) (items : List Component) (x : Component) (r : Role) (stop : Stop) (more : Path → List Stop) (old mid : Draft) (e : ElabError)
    → slice_get parts n ≡ Some part → items ≡ part.components.items → i < length items → x ≡ get_or items i x → role parts x ≡ r
    → ((path : Path) → (first : Stop) × (visit parts path (walk parts depth) (suc i) x ≡ first ∷ more path)
    × (IsTooMany (length mid.comps) (length mid.chans) mid.ends (stop ∷ []) → IsTooMany (length mid.comps) (length mid.chans) mid.ends (first ∷ [])))
    → ((path : Path) → Counts old mid (stops_before parts path depth items i))
    → Refused part.channels.items x r mid stop n (i + 1) e → Fails parts part depth old e
refused_fails parts part n depth i items x r stop more old mid e number same lt is role_is first counts refused top path at full =
    let has = component_at part items i x same is lt in
    let whole = below_copy parts path depth part in
    elim refused [
      | inl memory ↦ rw memory tt
      | inr (inl (f, is_fault, h)) ↦
          let here : At parts top n (i + 1) = record { path = path; part = part; comp = x; reached = at; number = number; here = rw add-one has } in
          rw is_fault (fault_ends parts top old whole f n (i + 1) here (subst (λ (q : Role). HasFault part.channels.items x q f) (sym role_is) h))
      | inr (inr (big, many)) ↦
          let (stop', begins, same_many) = first path in
          rw big (in_whole parts part path depth i items x old mid [] (stop' ∷ []) (more path) same lt is begins (rw append-nil (counts path)) (same_many many))
    ]

pub leaf_fails : (parts : List Part) (part : Part) (n depth i : ℕ) (items : List Component) (x : Component) (old mid : Draft) (e : ElabError)
    → slice_get parts n ≡ Some part → items ≡ part.components.items → i < length items → x ≡ get_or items i x → named parts x.name.items ≡ None
    → ((path : Path) → Counts old mid (stops_before parts path depth items i))
    → Refused part.channels.items x (leaf_role x) mid (leaf [] x) n (i + 1) e → Fails parts part depth old e
leaf_fails parts part n depth i items x old mid e number same lt is none counts refused =
    refused_fails parts part n depth i items x (leaf_role x) (leaf [] x) (λ path. []) old mid e number same lt is (role_none parts x none)
    (λ path. (leaf path x, rw (none, visit) refl, λ many. many)) counts refused

pub copy_fails : (parts : List Part) (part q : Part) (n depth i : ℕ) (items : List Component) (x : Component) (old mid : Draft) (e : ElabError)
    → slice_get parts n ≡ Some part → items ≡ part.components.items → i < length items → x ≡ get_or items i x → named parts x.name.items ≡ Some q → 0 < depth
    → ((path : Path) → Counts old mid (stops_before parts path depth items i))
    → Refused part.channels.items x (instance q) mid (copy (0 ∷ []) q) n (i + 1) e → Fails parts part depth old e
copy_fails parts part q n zero i items x old mid e number same lt is some pos counts refused = absurd (omega arith)
copy_fails parts part q n (suc m) i items x old mid e number same lt is some pos counts refused =
    refused_fails parts part n (suc m) i items x (instance q) (copy (0 ∷ []) q) (λ path. below_copy parts (suc i ∷ path) m q) old mid e number same lt is (role_some parts x q some)
    (λ path. (copy (suc i ∷ path) q, rw (some, visit) refl, λ many. many)) counts refused

-- the walk ended below an instance
pub deeper_fails : (parts : List Part) (part q : Part) (depth i : ℕ) (items : List Component) (x : Component) (old mid new : Draft) (e : ElabError)
    → items ≡ part.components.items → i < length items → x ≡ get_or items i x → named parts x.name.items ≡ Some q → 0 < depth
    → ((path : Path) → Counts old mid (stops_before parts path depth items i)) → Entered mid new q (length q.ports.items)
    → Fails parts q (depth - 1) new e → Fails parts part depth old e
deeper_fails parts part q zero i items x old mid new e same lt is some pos counts entered fails = absurd (omega arith)
deeper_fails parts part q (suc m) i items x old mid new e same lt is some pos counts entered fails = λ top path at full.
    let z : suc m - 1 ≡ m = omega arith in
    let has = component_at part items i x same is lt in
    let first : List Stop = copy (suc i ∷ path) q ∷ [] in
    let below = below_copy parts (suc i ∷ path) m q in
    let inside : EndsWalk parts top new below e =
    (rw z at fails) top (suc i ∷ path) (copied_inner parts top part q path (suc i) x at has some) (omega arith) in
    ends_up parts top new old below (below_copy parts path (suc m) part) e
    (λ many. in_whole parts part path (suc m) i items x old new first below [] same lt is (rw (some, visit, append-nil) refl)
    (counts_then old mid new (stops_before parts path (suc m) items i) first (counts path) (counts_copy mid new (suc i ∷ path) q entered)) many)
    inside

-- The whole net.

-- the top has too many channels of its own
pub top_big : (parts : List Part) (top : Part) (n : ℕ) → n ≡ 0 → most_chans < n + (length top.channels.items - 0) → IsTooMany 0 0 0 (stops parts top)
unfolding stops
top_big parts top n z h =
    let rest = below_copy parts [] most_instances top in
    let own = top.channels.items in
    inr (inl (omega (arith, h, z, length-append own (flat_map own_chans rest))))

ends_or : (parts : List Part) (top : Part) (old : Draft) (ss : List Stop) (e : ElabError) → (IsTooMany (length old.comps) (length old.chans) old.ends ss → IsTooMany 0 0 0 (stops parts top))
    → EndsWalk parts top old ss e → (e ≡ Memory) ⊎ AppliesTo parts top e
ends_or parts top old ss Memory up h = inl refl
ends_or parts top old ss TooBig up h = inr (up h)
ends_or parts top old ss e up h = inr h

-- the walk below the top ended early
pub top_fails : (parts : List Part) (top : Part) (empty mid : Draft) (e : ElabError) → empty.comps ≡ [] → empty.chans ≡ [] → empty.ends ≡ 0
    → Entered empty mid top 0 → Fails parts top most_instances mid e → (e ≡ Memory) ⊎ AppliesTo parts top e
unfolding stops
top_fails parts top empty mid e no_comps no_chans no_ends entered fails =
    let first : List Stop = copy [] top ∷ [] in
    let below = below_copy parts [] most_instances top in
    let counts : Counts empty mid ([] ++ first) = counts_copy empty mid [] top entered in
    let zero_comps : length empty.comps ≡ 0 = ap length no_comps in
    let zero_chans : length empty.chans ≡ 0 = ap length no_chans in
    ends_or parts top mid below e
    (λ many.
    let all = rw (zero_comps, zero_chans, no_ends) at (too_many empty mid first below [] counts many) in
    subst (λ (ss : List Stop). IsTooMany 0 0 0 (first ++ ss)) (append-nil below) all)
    (fails top [] refl refl)
