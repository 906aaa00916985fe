-- The first refusal of a part, by what can be told without its net.
use Rattle.std.proofs.Common.{◌≡◌, ℕ, zero, suc, ◌+◌, ◌<◌, ◌≤◌, Bool, true, Option, None, Some, List, [], ◌∷◌, length, map, ◌⊎◌, inl, inr, refl, sym, ◌∙◌, ap, subst, arith, slice_get, option_and_then, length-append}
use Rattle.std.specs.List.{flat_map}
use Rattle.std.proofs.lemmas.Bool.Decides.{eqb_tells}
use Rattle.bz_breeze_records.specs.declared.part.Part.{Part}
use Rattle.bz_flat.specs.declared.error.ElabError.{ElabError}
use Rattle.bz_flat.specs.declared.error.ElabError.TheVariants.{NoPart, Recursive, TooDeep, UnknownComponent, BadParameter, PortCount, BadChannel, TooBig, KindMismatch, WidthMismatch, TwoEnds, LooseEnd, PortSense, Memory}
use Rattle.bz_elab.specs.declared.error.Fault.{Fault}
use Rattle.bz_elab.specs.declared.error.Fault.TheVariants as fault
use Rattle.bz_elab.specs.declared.faults.Found.{Found}
use Rattle.bz_elab.specs.declared.totals.Total.{Total}
use Rattle.bz_elab.specs.Faults.{error_at}
use Rattle.bz_elab.specs.Paths.{Path, named, component, inner, copied, role, stops, net, own_chans, most_instances}
use Rattle.bz_elab.specs.Refusals.{FaultAt, IsRecursive, IsTooDeep, IsTooMany, AppliesTo, Applies, own_comps, own_ends, most_ends}
use Rattle.bz_flat.specs.Wires.{most_comps, most_chans}
use Rattle.bz_model.specs.Names.{external}
use Rattle.bz_elab.specs.declared.walk.Draft.{Draft}
use Rattle.bz_flat.specs.Flats.{sites_of}
use Rattle.bz_elab.specs.Seats.{WiringFault}
use Rattle.bz_elab.specs.Growth.{below_copy, IsNet, IsSound, IsSoundBelow}
use Rattle.bz_elab.proofs.Wiring.{net_is}
use Rattle.bz_elab.specs.Numbers.{number_named, inner_number, number_at, IsBelow, IsReached, IsFirstPlace, is_marked, Marks, IsFirstRecursive}
use Rattle.bz_elab.specs.Order.{rank, order, NoLater, Refuses, RefusesPart, PassesPart}
use Rattle.bz_elab.specs.Totals.{Capped, IsTotal, IsDeeper}
use Rattle.bz_elab.specs.Least.{FaultHere, InMarked, IsLeastFault}
use Rattle.bz_elab.proofs.Numbering.{named_number, named_first, named_within}
use Rattle.bz_elab.proofs.Soundness.{part_at}
use Rattle.bz_elab.proofs.Leasts.{order_most, rank_is, no_later, no_later_order, real_fault}
use Rattle.bz_elab.proofs.Refusing.{longer}
use Rattle.bz_elab.proofs.Roles.{sound_has_none}
use Rattle.bz_elab.proofs.Totaling.{capped_is}

-- Copies, by the places of their parts.

and_then : {X Y Z : Type 0} (f : X → Option Y) (g : Y → Option Z) (o : Option X) → option_and_then g (option_and_then f o) ≡ option_and_then (λ x. option_and_then g (f x)) o
and_then f g None = refl
and_then f g (Some x) = refl

inner_by_number : (parts : List Part) (p : Part) (i : ℕ) → inner parts p i ≡ option_and_then (slice_get parts) (option_and_then (λ c. number_named parts c.name.items) (component p i))
inner_by_number parts p i = elim (component p i) as (λ o. option_and_then (λ c. named parts c.name.items) o ≡ option_and_then (slice_get parts) (option_and_then (λ c. number_named parts c.name.items) o)) [
  | None ↦ refl
  | Some c ↦ named_number parts c.name.items
]

inner_at : (parts : List Part) (m i : ℕ) → option_and_then (λ p. inner parts p i) (slice_get parts m) ≡ option_and_then (slice_get parts) (inner_number parts m i)
inner_at parts m i = elim (slice_get parts m) as (λ o. option_and_then (λ p. inner parts p i) o ≡ option_and_then (slice_get parts) (option_and_then (λ c. number_named parts c.name.items) (option_and_then (λ p. component p i) o))) [
  | None ↦ refl
  | Some p ↦ inner_by_number parts p i
]

pub copied_number : (parts : List Part) (n : ℕ) (top : Part) (path : Path) → slice_get parts n ≡ Some top → copied parts top path ≡ option_and_then (slice_get parts) (number_at parts n path)
copied_number parts n top [] at = sym at
copied_number parts n top (i ∷ up) at =
    ap (option_and_then (λ p. inner parts p i)) (copied_number parts n top up at) ∙
    elim (number_at parts n up) as (λ o. option_and_then (λ p. inner parts p i) (option_and_then (slice_get parts) o) ≡ option_and_then (slice_get parts) (option_and_then (λ m. inner_number parts m i) o)) [
      | None ↦ refl
      | Some m ↦ inner_at parts m i
    ]

reached_at : (parts : List Part) (n : ℕ) (top q : Part) (path : Path) → slice_get parts n ≡ Some top → copied parts top path ≡ Some q → (m : ℕ) × (number_at parts n path ≡ Some m) × (slice_get parts m ≡ Some q)
reached_at parts n top q path at is =
    let e = sym (copied_number parts n top path at) ∙ is in
    elim (number_at parts n path) as (λ o. number_at parts n path ≡ o → option_and_then (slice_get parts) o ≡ Some q → (m : ℕ) × (number_at parts n path ≡ Some m) × (slice_get parts m ≡ Some q)) [
      | None ↦ λ f g. cc
      | Some m ↦ λ f g. (m, f, g)
    ] refl e

-- the place of a part of which there is an instance is that of its name
inner_named : (parts : List Part) (m i k : ℕ) → inner_number parts m i ≡ Some k → (name : List ℕ) × (number_named parts name ≡ Some k)
inner_named parts m i k e = elim (option_and_then (λ p. component p i) (slice_get parts m)) as (λ o. option_and_then (λ c. number_named parts c.name.items) o ≡ Some k → (name : List ℕ) × (number_named parts name ≡ Some k)) [
  | None ↦ λ f. cc
  | Some c ↦ λ f. (c.name.items, f)
] e

below_named : (parts : List Part) (n i k : ℕ) (up : Path) → number_at parts n (i ∷ up) ≡ Some k → (name : List ℕ) × (number_named parts name ≡ Some k)
below_named parts n i k up e = elim (number_at parts n up) as (λ o. option_and_then (λ m. inner_number parts m i) o ≡ Some k → (name : List ℕ) × (number_named parts name ≡ Some k)) [
  | None ↦ λ f. cc
  | Some m ↦ λ f. inner_named parts m i k f
] e

both : {X : Type 0} {o : Option X} {x y : X} → o ≡ Some x → o ≡ Some y → y ≡ x
both e f = cc

-- it is the first place where that part stands
first_at : (parts : List Part) (n : ℕ) (top : Part) (path : Path) (m k : ℕ) (q : Part) → slice_get parts n ≡ Some top → IsFirstPlace parts n top → number_at parts n path ≡ Some m → slice_get parts m ≡ Some q
    → slice_get parts k ≡ Some q → m ≤ k
first_at parts n top [] m k q at first e is there =
    let same : m ≡ n = cc in
    let top_is : q ≡ top = both at (rw same at is) in
    let le = first k (rw top_is at there) in
    omega (arith, same, le)
first_at parts n top (i ∷ up) m k q at first e is there = let (name, named_is) = below_named parts n i m up e in named_first parts name m k q named_is is there

pub number_within : (parts : List Part) (n : ℕ) (path : Path) (m : ℕ) → n < length parts → number_at parts n path ≡ Some m → m < length parts
number_within parts n [] m lt e = let same : m ≡ n = cc in omega (arith, same, lt)
number_within parts n (i ∷ up) m lt e = let (name, named_is) = below_named parts n i m up e in named_within parts name m named_is

slice_within : {X : Type 0} (xs : List X) (n : ℕ) (x : X) → slice_get xs n ≡ Some x → n < length xs
slice_within [] n x e = cc
slice_within (y ∷ ys) zero x e = omega arith
slice_within (y ∷ ys) (suc n) x e = let lt = slice_within ys n x e in omega (arith, lt)

-- the part of the text that a copy is of
marked_at : (parts : List Part) (marks : List Bool) (n : ℕ) (top : Part) (m : ℕ) → slice_get parts n ≡ Some top → Marks parts (IsReached parts n) marks → is_marked marks m ≡ true
    → (path : Path) × (p : Part) × (copied parts top path ≡ Some p) × (slice_get parts m ≡ Some p)
marked_at parts marks n top m at all marked =
    let (path, e) = all.sound m marked in
    let (p, is) = part_at parts m (number_within parts n path m (slice_within parts n top at) e) in
    (path, p, copied_number parts n top path at ∙ rw e is, is)

-- E2 and E3.

pub recursive_applies : (parts : List Part) (marks : List Bool) (n : ℕ) (top : Part) (m : ℕ) → slice_get parts n ≡ Some top → Marks parts (IsReached parts n) marks → is_marked marks m ≡ true → IsBelow parts m m
    → IsRecursive parts top m
recursive_applies parts marks n top m at all marked (i, up, e) =
    let (path, p, reached, is) = marked_at parts marks n top m at all marked in
    record {
      path = path;
      part = p;
      reached = reached;
      number = is;
      first = i;
      others = up;
      again = copied_number parts m p (i ∷ up) is ∙ rw e is;
    }

-- a part that reaches itself does so from its first place
pub recursive_at : (parts : List Part) (marks : List Bool) (n : ℕ) (top : Part) (k : ℕ) → slice_get parts n ≡ Some top → IsFirstPlace parts n top → Marks parts (IsReached parts n) marks → IsRecursive parts top k
    → (m : ℕ) × (m ≤ k) × (is_marked marks m ≡ true) × IsBelow parts m m
recursive_at parts marks n top k at first all r =
    let (m, e, is) = reached_at parts n top r.part r.path at r.reached in
    let (m', e', is') = reached_at parts m r.part r.part (r.first ∷ r.others) is r.again in
    let le = first_at parts n top r.path m k r.part at first e is r.number in
    let below = first_at parts n top r.path m m' r.part at first e is is' in
    let (name, named_is) = below_named parts m r.first m' r.others e' in
    let above = named_first parts name m' m r.part named_is is' is in
    let same : m' ≡ m = omega (arith, below, above) in
    (m, le, all.whole m (r.path, e), (r.first, r.others, e' ∙ ap (λ x. Some x) same))

pub refuses_recursive : (parts : List Part) (marks : List Bool) (n : ℕ) (top : Part) (m : ℕ) → slice_get parts n ≡ Some top → IsFirstPlace parts n top → Marks parts (IsReached parts n) marks
    → IsFirstRecursive parts marks (Some m) → RefusesPart parts top (Recursive m)
refuses_recursive parts marks n top m at first all (marked, below, least) = record { applies = recursive_applies parts marks n top m at all marked below; first = go }
  where
    go : (q : ElabError) → AppliesTo parts top q → NoLater (Recursive m) q
    go NoPart h = absurd h
    go Memory h = absurd h
    go (Recursive k) h =
        let (j, le, there, is) = recursive_at parts marks n top k at first all h in
        let ge = least j there is in
        inr (refl, elim (eqb_tells m k) [ inl e ↦ inr (e.1, omega arith) | inr d ↦ inl (omega (arith, le, ge, d.1)) ])
    go q h = inl (omega arith)

pub refuses_deep : (parts : List Part) (marks : List Bool) (n : ℕ) (top : Part) → slice_get parts n ≡ Some top → IsFirstPlace parts n top → Marks parts (IsReached parts n) marks → IsFirstRecursive parts marks None
    → IsDeeper parts top most_instances → RefusesPart parts top TooDeep
refuses_deep parts marks n top at first all none (path, p, is, lt) = record { applies = record { path = path; part = p; reached = is; long = lt }; first = go }
  where
    go : (q : ElabError) → AppliesTo parts top q → NoLater TooDeep q
    go NoPart h = absurd h
    go Memory h = absurd h
    go (Recursive k) h = let (j, le, there, is) = recursive_at parts marks n top k at first all h in absurd (none j there is)
    go TooDeep h = inr (refl, inr (refl, omega arith))
    go q h = inl (omega arith)

pub no_recursion_in : (parts : List Part) (top : Part) (t : Total) (n : ℕ) → IsTotal parts top t → IsRecursive parts top n → ⊥
no_recursion_in parts top t n is r =
    let (long, there, le) = longer parts top r.part r.path (r.first ∷ r.others) (suc t.height) r.reached r.again (omega arith) in
    let short = is.short long r.part there in
    omega (arith, short, le)

pub no_depth_in : (parts : List Part) (top : Part) (t : Total) → IsTotal parts top t → t.height ≤ most_instances → IsTooDeep parts top → ⊥
no_depth_in parts top t is le h = let short = is.short h.path h.part h.reached in let long = h.long in omega (arith, short, le, long)

-- E8.

big_from : (c k e a b d : ℕ) → Capped most_comps c a → Capped most_chans k b → Capped most_ends e d → (most_comps < 0 + a) ⊎ ((most_chans < 0 + b) ⊎ (most_ends < 0 + d))
    → (most_comps < c) ⊎ ((most_chans < k) ⊎ (most_ends < e))
big_from c k e a b d x y z (inl many) = inl (omega (arith, many, x))
big_from c k e a b d x y z (inr (inl many)) = inr (inl (omega (arith, many, y)))
big_from c k e a b d x y z (inr (inr many)) = inr (inr (omega (arith, many, z)))

big_to : (c k e a b d : ℕ) → Capped most_comps c a → Capped most_chans k b → Capped most_ends e d → (most_comps < c) ⊎ ((most_chans < k) ⊎ (most_ends < e))
    → (most_comps < 0 + a) ⊎ ((most_chans < 0 + b) ⊎ (most_ends < 0 + d))
big_to c k e a b d x y z (inl many) = inl (omega (arith, many, x))
big_to c k e a b d x y z (inr (inl many)) = inr (inl (omega (arith, many, y)))
big_to c k e a b d x y z (inr (inr many)) = inr (inr (omega (arith, many, z)))

-- the top's own channels with those below it
all_chans : (parts : List Part) (top : Part) (t : Total) (chans : ℕ) → IsTotal parts top t → t.height ≤ most_instances
    → ((n m : ℕ) → Capped most_chans t.chans n → Capped most_chans (length top.channels.items) m → Capped most_chans chans (n + m))
    → Capped most_chans chans (length (flat_map own_chans (stops parts top)))
unfolding stops
all_chans parts top t chans is le sum =
    let rest = below_copy parts [] most_instances top in
    let b = is.brings [] most_instances le in
    let own = length-append top.channels.items (flat_map own_chans rest) in
    capped_is most_chans chans _ _ (omega (arith, own)) (sum (length (flat_map own_chans rest)) (length top.channels.items) b.chans (inl refl))

all_comps : (parts : List Part) (top : Part) (t : Total) → IsTotal parts top t → t.height ≤ most_instances → Capped most_comps t.comps (length (flat_map own_comps (stops parts top)))
unfolding stops
all_comps parts top t is le = (is.brings [] most_instances le).comps

all_ends : (parts : List Part) (top : Part) (t : Total) → IsTotal parts top t → t.height ≤ most_instances → Capped most_ends t.ends (length (flat_map own_ends (stops parts top)))
unfolding stops
all_ends parts top t is le = (is.brings [] most_instances le).ends

pub too_many_from : (parts : List Part) (top : Part) (t : Total) (chans : ℕ) → IsTotal parts top t → t.height ≤ most_instances
    → ((n m : ℕ) → Capped most_chans t.chans n → Capped most_chans (length top.channels.items) m → Capped most_chans chans (n + m))
    → IsTooMany 0 0 0 (stops parts top) → (most_comps < t.comps) ⊎ ((most_chans < chans) ⊎ (most_ends < t.ends))
too_many_from parts top t chans is le sum h = big_from t.comps chans t.ends _ _ _ (all_comps parts top t is le) (all_chans parts top t chans is le sum) (all_ends parts top t is le) h

pub too_many_to : (parts : List Part) (top : Part) (t : Total) (chans : ℕ) → IsTotal parts top t → t.height ≤ most_instances
    → ((n m : ℕ) → Capped most_chans t.chans n → Capped most_chans (length top.channels.items) m → Capped most_chans chans (n + m))
    → (most_comps < t.comps) ⊎ ((most_chans < chans) ⊎ (most_ends < t.ends)) → IsTooMany 0 0 0 (stops parts top)
too_many_to parts top t chans is le sum h = big_to t.comps chans t.ends _ _ _ (all_comps parts top t is le) (all_chans parts top t chans is le sum) (all_ends parts top t is le) h

-- E4 to E7, E9 and E10.

fault_applies : (parts : List Part) (top : Part) (f : Fault) (n i : ℕ) → (f ≡ fault.Memory → ⊥) → FaultAt parts top f n i → AppliesTo parts top (error_at f n i)
fault_applies parts top fault.UnknownComponent n i real h = h
fault_applies parts top fault.BadParameter n i real h = h
fault_applies parts top fault.PortCount n i real h = h
fault_applies parts top fault.BadChannel n i real h = h
fault_applies parts top fault.KindMismatch n i real h = h
fault_applies parts top fault.WidthMismatch n i real h = h
fault_applies parts top fault.Memory n i real h = absurd (real refl)

found_applies : (parts : List Part) (marks : List Bool) (n : ℕ) (top : Part) (m i : ℕ) (f : Fault) → slice_get parts n ≡ Some top → Marks parts (IsReached parts n) marks → is_marked marks m ≡ true → FaultHere parts m i f
    → AppliesTo parts top (error_at f m i)
found_applies parts marks n top m i f at all marked here =
    let (path, p, reached, is) = marked_at parts marks n top m at all marked in
    let same : p ≡ here.part = both here.number is in
    fault_applies parts top f m i (real_fault parts m i f here)
    (record { path = path; part = here.part; comp = here.comp; reached = rw same at reached; number = here.number; here = here.here }, here.fault)

-- a fault of a copy is one of its part, at its first place
pub fault_place : (parts : List Part) (marks : List Bool) (n : ℕ) (top : Part) (f : Fault) (k i : ℕ) → slice_get parts n ≡ Some top → IsFirstPlace parts n top → Marks parts (IsReached parts n) marks → FaultAt parts top f k i
    → (m : ℕ) × (m ≤ k) × (is_marked marks m ≡ true) × FaultHere parts m i f
fault_place parts marks n top f k i at first all (a, wrong) =
    let (m, e, is) = reached_at parts n top a.part a.path at a.reached in
    (m, first_at parts n top a.path m k a.part at first e is a.number, all.whole m (a.path, e), record { part = a.part; comp = a.comp; number = is; here = a.here; fault = wrong })

least_first : (parts : List Part) (marks : List Bool) (n : ℕ) (top : Part) (b : Found) (f : Fault) (k i : ℕ) → slice_get parts n ≡ Some top → IsFirstPlace parts n top → Marks parts (IsReached parts n) marks
    → IsLeastFault parts (InMarked marks) (Some b) → FaultAt parts top f k i → NoLater (error_at b.fault b.spot.part b.spot.position) (error_at f k i)
least_first parts marks n top b f k i at first all (marked, stands, least) h =
    let (m, le, there, here) = fault_place parts marks n top f k i at first all h in
    let real = real_fault parts b.spot.part b.spot.position b.fault stands in
    let real' = real_fault parts m i f here in
    no_later b.fault f b.spot.part b.spot.position k i real real' (elim (no_later_order b.fault f b.spot.part b.spot.position m i real real' (least m i f there here)) [
      | inl lt ↦ inl lt
      | inr (same, inl lt) ↦ inr (same, inl (omega (arith, lt, le)))
      | inr (same, inr (part, at_most)) ↦ inr (
        same,
        elim (eqb_tells m k) [
          | inl e ↦ inr (omega (arith, part, e.1), at_most)
          | inr d ↦ inl (omega (arith, part, le, d.1))
        ],
      )
    ])

-- what was checked before the faults: the part is no deeper than it may be
pub refuses_fault : (parts : List Part) (marks : List Bool) (n : ℕ) (top : Part) (t : Total) (b : Found) → slice_get parts n ≡ Some top → IsFirstPlace parts n top → Marks parts (IsReached parts n) marks
    → IsTotal parts top t → t.height ≤ most_instances → IsLeastFault parts (InMarked marks) (Some b) → (order b.fault < 8) ⊎ (IsTooMany 0 0 0 (stops parts top) → ⊥)
    → RefusesPart parts top (error_at b.fault b.spot.part b.spot.position)
refuses_fault parts marks n top t b at first all is le least early = record {
  applies = found_applies parts marks n top b.spot.part b.spot.position b.fault at all least.0 least.1;
  first = go;
}
  where
    e : ElabError
    e = error_at b.fault b.spot.part b.spot.position

    go : (q : ElabError) → AppliesTo parts top q → NoLater e q
    go NoPart h = absurd h
    go Memory h = absurd h
    go (Recursive k) h = absurd (no_recursion_in parts top t k is h)
    go TooDeep h = absurd (no_depth_in parts top t is le h)
    go TooBig h = elim early [
      | inl lt ↦ inl (let r = rank_is b.fault b.spot.part b.spot.position in omega (arith, lt, r))
      | inr no_more ↦ absurd (no_more h)
    ]
    go (UnknownComponent k i) h = least_first parts marks n top b fault.UnknownComponent k i at first all least h
    go (BadParameter k i) h = least_first parts marks n top b fault.BadParameter k i at first all least h
    go (PortCount k i) h = least_first parts marks n top b fault.PortCount k i at first all least h
    go (BadChannel k i) h = least_first parts marks n top b fault.BadChannel k i at first all least h
    go (KindMismatch k i) h = least_first parts marks n top b fault.KindMismatch k i at first all least h
    go (WidthMismatch k i) h = least_first parts marks n top b fault.WidthMismatch k i at first all least h
    go (TwoEnds k) h = inl (let r = rank_is b.fault b.spot.part b.spot.position in let o = order_most b.fault in omega (arith, r, o))
    go (LooseEnd k) h = inl (let r = rank_is b.fault b.spot.part b.spot.position in let o = order_most b.fault in omega (arith, r, o))
    go (PortSense k) h = inl (let r = rank_is b.fault b.spot.part b.spot.position in let o = order_most b.fault in omega (arith, r, o))

no_sound_fault : (parts : List Part) (m i : ℕ) (f : Fault) (here : FaultHere parts m i f) → IsSound here.part.channels.items here.comp (role parts here.comp) → ⊥
no_sound_fault parts m i f here sound = sound_has_none here.part.channels.items here.comp (role parts here.comp) f sound here.fault

-- no fault before E8
abbrev pub IsLate : Option Found → Type 0
IsLate None = Unit {0}
IsLate (Some b) = 8 ≤ order b.fault

none_early : (parts : List Part) (marks : List Bool) (n : ℕ) (top : Part) (o : Option Found) (f : Fault) (k i : ℕ) → slice_get parts n ≡ Some top → IsFirstPlace parts n top → Marks parts (IsReached parts n) marks
    → IsLeastFault parts (InMarked marks) o → IsLate o → order f < 8 → FaultAt parts top f k i → ⊥
none_early parts marks n top None f k i at first all least late lt h =
    let (m, le, there, here) = fault_place parts marks n top f k i at first all h in
    no_sound_fault parts m i f here (least m i here.part here.comp there here.number here.here)
none_early parts marks n top (Some b) f k i at first all least late lt h =
    let (m, le, there, here) = fault_place parts marks n top f k i at first all h in
    let real = real_fault parts b.spot.part b.spot.position b.fault least.1 in
    let o = no_later_order b.fault f b.spot.part b.spot.position m i real (real_fault parts m i f here) (least.2 m i f there here) in
    let from : 8 ≤ order b.fault = late in
    elim o [ inl before ↦ omega (arith, before, from, lt) | inr (same, more) ↦ omega (arith, same, from, lt) ]

pub refuses_big : (parts : List Part) (marks : List Bool) (n : ℕ) (top : Part) (t : Total) (o : Option Found) → slice_get parts n ≡ Some top → IsFirstPlace parts n top → Marks parts (IsReached parts n) marks
    → IsTotal parts top t → t.height ≤ most_instances → IsLeastFault parts (InMarked marks) o → IsLate o → IsTooMany 0 0 0 (stops parts top) → RefusesPart parts top TooBig
refuses_big parts marks n top t o at first all is le least late many = record { applies = many; first = go }
  where
    go : (q : ElabError) → AppliesTo parts top q → NoLater TooBig q
    go NoPart h = absurd h
    go Memory h = absurd h
    go (Recursive k) h = absurd (no_recursion_in parts top t k is h)
    go TooDeep h = absurd (no_depth_in parts top t is le h)
    go (UnknownComponent k i) h = absurd (none_early parts marks n top o fault.UnknownComponent k i at first all least late (omega arith) h)
    go (BadParameter k i) h = absurd (none_early parts marks n top o fault.BadParameter k i at first all least late (omega arith) h)
    go (PortCount k i) h = absurd (none_early parts marks n top o fault.PortCount k i at first all least late (omega arith) h)
    go (BadChannel k i) h = absurd (none_early parts marks n top o fault.BadChannel k i at first all least late (omega arith) h)
    go TooBig h = inr (refl, inr (refl, omega arith))
    go q h = inl (omega arith)

pub passes : (parts : List Part) (marks : List Bool) (n : ℕ) (top : Part) (t : Total) → slice_get parts n ≡ Some top → IsFirstPlace parts n top → Marks parts (IsReached parts n) marks
    → IsTotal parts top t → t.height ≤ most_instances → IsLeastFault parts (InMarked marks) None → (IsTooMany 0 0 0 (stops parts top) → ⊥) → PassesPart parts top
passes parts marks n top t at first all is le least few = go
  where
    none : (f : Fault) (k i : ℕ) → FaultAt parts top f k i → ⊥
    none f k i h =
        let (m, below, there, here) = fault_place parts marks n top f k i at first all h in
        no_sound_fault parts m i f here (least m i here.part here.comp there here.number here.here)

    go : (q : ElabError) → AppliesTo parts top q → 10 < rank q
    go NoPart h = absurd h
    go Memory h = absurd h
    go (Recursive k) h = absurd (no_recursion_in parts top t k is h)
    go TooDeep h = absurd (no_depth_in parts top t is le h)
    go TooBig h = absurd (few h)
    go (UnknownComponent k i) h = absurd (none fault.UnknownComponent k i h)
    go (BadParameter k i) h = absurd (none fault.BadParameter k i h)
    go (PortCount k i) h = absurd (none fault.PortCount k i h)
    go (BadChannel k i) h = absurd (none fault.BadChannel k i h)
    go (KindMismatch k i) h = absurd (none fault.KindMismatch k i h)
    go (WidthMismatch k i) h = absurd (none fault.WidthMismatch k i h)
    go (TwoEnds k) h = omega arith
    go (LooseEnd k) h = omega arith
    go (PortSense k) h = omega arith

-- where no component has a fault, the part is sound with all that it reaches
pub sound_below : (parts : List Part) (marks : List Bool) (n : ℕ) (top : Part) (t : Total) → slice_get parts n ≡ Some top → Marks parts (IsReached parts n) marks → IsTotal parts top t → t.height ≤ most_instances
    → IsLeastFault parts (InMarked marks) None → IsSoundBelow parts top most_instances
sound_below parts marks n top t at all is le least = record {
  short = λ below q e. let w = is.short below q e in omega (arith, w, le);
  sound = λ below q e i c has. let (m, there, number) = reached_at parts n top q below at e in least m i q c (all.whole m (below, there)) number has;
}

-- E11 to E13, where none of the others applies.

pub wiring_refuses : (parts : List Part) (top : Part) (e : ElabError) → PassesPart parts top → WiringFault (net parts top).sites (net parts top).ports e → (e ≡ Memory) ⊎ RefusesPart parts top e
wiring_refuses parts top (TwoEnds k) p h = inr (record { applies = h.is_in; first = go })
  where
    go : (q : ElabError) → AppliesTo parts top q → NoLater (TwoEnds k) q
    go (TwoEnds j) x = inr (refl, inr (refl, h.least j x))
    go (LooseEnd j) x = inl (omega arith)
    go (PortSense j) x = inl (omega arith)
    go q x = absurd (let late = p q x in omega (arith, late))
wiring_refuses parts top (LooseEnd k) p h = inr (record { applies = h.1.is_in; first = go })
  where
    go : (q : ElabError) → AppliesTo parts top q → NoLater (LooseEnd k) q
    go (TwoEnds j) x = absurd (h.0 j x)
    go (LooseEnd j) x = inr (refl, inr (refl, h.1.least j x))
    go (PortSense j) x = inl (omega arith)
    go q x = absurd (let late = p q x in omega (arith, late))
wiring_refuses parts top (PortSense k) p h = inr (record { applies = h.2.is_in; first = go })
  where
    go : (q : ElabError) → AppliesTo parts top q → NoLater (PortSense k) q
    go (TwoEnds j) x = absurd (h.0 j x)
    go (LooseEnd j) x = absurd (h.1 j x)
    go (PortSense j) x = inr (refl, inr (refl, h.2.least j x))
    go q x = absurd (let late = p q x in omega (arith, late))
wiring_refuses parts top Memory p h = inl refl
wiring_refuses parts top e p h = absurd h

pub wire_refuses : (parts : List Part) (top : Part) (d : Draft) (e : ElabError) → IsNet parts top d → PassesPart parts top → WiringFault (sites_of d.comps) (map external top.ports.items) e
    → (e ≡ Memory) ⊎ RefusesPart parts top e
wire_refuses parts top d e n p h =
    let is = net_is parts top d n in
    wiring_refuses parts top e p (rw (← is) h)

-- the walk of a part that passes fails for want of memory alone
pub walk_refuses : (parts : List Part) (top : Part) (e : ElabError) → PassesPart parts top → rank e ≤ 10 → (e ≡ Memory) ⊎ AppliesTo parts top e → (e ≡ Memory) ⊎ RefusesPart parts top e
walk_refuses parts top e p early (inl memory) = inl memory
walk_refuses parts top e p early (inr h) = absurd (let late = p e h in omega (arith, late, early))

-- By the name of the part.

pub refuses_no_part : (parts : List Part) (name : List ℕ) → named parts name ≡ None → Refuses parts name NoPart
refuses_no_part parts name none = record { applies = none; first = go }
  where
    go : (q : ElabError) → Applies parts name q → NoLater NoPart q
    go NoPart h = inr (refl, inr (refl, omega arith))
    go q (top, is, h) = absurd (let clash = rw none at is in cc)

first_of : (parts : List Part) (name : List ℕ) (top : Part) (e : ElabError) → named parts name ≡ Some top → ((q : ElabError) → AppliesTo parts top q → NoLater e q) → (q : ElabError) → Applies parts name q → NoLater e q
first_of parts name top e is first NoPart h = absurd (let clash = rw is at h in cc)
first_of parts name top e is first q (other, named_other, h) = first q (subst (λ (p : Part). AppliesTo parts p q) (both is named_other) h)

applies_of : (parts : List Part) (name : List ℕ) (top : Part) (e : ElabError) → named parts name ≡ Some top → AppliesTo parts top e → Applies parts name e
applies_of parts name top NoPart is h = absurd h
applies_of parts name top e is h = (top, is, h)

pub refuses_named : (parts : List Part) (name : List ℕ) (top : Part) (e : ElabError) → named parts name ≡ Some top → (e ≡ Memory) ⊎ RefusesPart parts top e → (e ≡ Memory) ⊎ Refuses parts name e
refuses_named parts name top e is (inl memory) = inl memory
refuses_named parts name top e is (inr h) = inr (record { applies = applies_of parts name top e is h.applies; first = first_of parts name top e is h.first })
