-- What the walk adds, one component after another.
use Rattle.std.proofs.Common.{◌≡◌, ◌≢◌, ℕ, zero, suc, ◌+◌, ◌-◌, ◌<◌, ◌≤◌, Bool, true, false, Option, None, Some, List, [], ◌∷◌, ◌++◌, length, map, take, get_or, set, inl, inr, refl, sym, ap, ◌∙◌, subst, arith, append_assoc, slice_get, length-append, Vec, Global, if◌then◌else◌, nat_eq, rules, tests}
use Rattle.std.specs.List.{All}
use Rattle.std.proofs.lemmas.Bool.Decides.{eqb_tells}
use Rattle.std.proofs.lemmas.Option.{slice_get_read}
use Rattle.std.proofs.lemmas.List.Elements.{All-head, All-tail, filter_map-append}
use Rattle.std.proofs.lemmas.List.{take_more, length-take, length-map, length-set, append-nil, map-append, get_or-set_other}
use Rattle.bz_breeze_records.specs.declared.part.Part.{Part}
use Rattle.bz_breeze_records.specs.declared.part.Component.{Component}
use Rattle.bz_elab.specs.Paths.{each_from, most_instances}
use Rattle.bz_elab.specs.Numbers.{number_named, inner_number, number_at}
use Rattle.bz_elab.proofs.Counting.{each_from-push}
use Rattle.bz_elab.proofs.Numbering.{named_within}
use Rattle.bz_source.specs.declared.path_at.Find as code
use Rattle.bz_source.specs.Found.{PathAt, Find, channel, component, instance, channels_from, record_at, told, found_at, found_in, below, inner_channels, components_of, IsDeeper, at_channel, at_component, at_instance, located, with_find, found, top_channels}
use Rattle.bz_source.specs.Inner.{inner_of, AreInner, AreBare, BringsNothing, IsBare, is_marked}
use Rattle.bz_source.specs.Views.{find_of, Settled}

-- one more, after others
pub more : (a b c fs gs : List Find) → b ≡ a ++ fs → c ≡ b ++ gs → c ≡ a ++ (fs ++ gs)
more a b c fs gs e f = f ∙ ap (λ x. x ++ gs) e ∙ append_assoc a fs gs

-- one more, behind those that were found
pub push_find : (old mid new : List code.Find) (fs : List Find) (f : code.Find) (g : Find) → map find_of mid ≡ map find_of old ++ fs → new ≡ mid ++ f ∷ [] → find_of f ≡ g → map find_of new ≡ map find_of old ++ (fs ++ g ∷ [])
push_find old mid new fs f g e n is = more (map find_of old) (map find_of mid) (map find_of new) fs (g ∷ []) e (ap (map find_of) n ∙ map-append find_of mid (f ∷ []) ∙ ap (λ x. map find_of mid ++ x ∷ []) is)

pub each_more : {A B : Type 0} (f : ℕ → A → List B) (xs : List A) (i : ℕ) (x : A) → i < length xs → x ≡ get_or xs i x → each_from 1 f (take (i + 1) xs) ≡ each_from 1 f (take i xs) ++ f (i + 1) x
each_more f xs i x lt is =
    let n : 1 + length (take i xs) ≡ i + 1 = omega (arith, length-take i xs) in
    let e : take (i + 1) xs ≡ take i xs ++ x ∷ [] = take_more xs i x lt ∙ ap (λ y. take i xs ++ y ∷ []) (sym is) in
    ap (each_from 1 f) e ∙ each_from-push 1 f (take i xs) x ∙ ap (λ j. each_from 1 f (take i xs) ++ f j x) n

take_all : {A : Type 0} (i : ℕ) (xs : List A) → length xs ≤ i → take i xs ≡ xs
take_all zero [] le = refl
take_all (suc i) [] le = refl
take_all zero (x ∷ xs) le = absurd (omega arith)
take_all (suc i) (x ∷ xs) le = ap (λ ys. x ∷ ys) (take_all i xs (omega arith))

pub comps_are : (parts : List Part) (n : ℕ) (part : Part) → slice_get parts n ≡ Some part → components_of parts n ≡ part.components.items
comps_are parts n part at = rw (at, components_of) refl

pub chans_are : (parts : List Part) (path : List ℕ) (n : ℕ) (part : Part) → slice_get parts n ≡ Some part
    → inner_channels parts path n ≡ channels_from n path (suc (length part.ports.items)) (length part.channels.items - length part.ports.items)
chans_are parts path n part at = rw (at, inner_channels) refl

-- what is read of the part of this number
pub record Here (parts : List Part) (n : ℕ) (inner : List (Option ℕ)) : Type 0 where
  pub part : Part
  pub is : slice_get parts n ≡ Some part
  pub inner_is : inner ≡ inner_of parts part

here_in : (all parts : List Part) (tables : List (Vec (Option ℕ) Global)) (n : ℕ) (t : Vec (Option ℕ) Global) → map (λ v. v.items) tables ≡ map (inner_of all) parts → n < length parts → t ≡ get_or tables n t
    → (part : Part) × (slice_get parts n ≡ Some part) × (t.items ≡ inner_of all part)
here_in all [] tables n t e lt is = absurd (omega arith)
here_in all (p ∷ ps) [] n t e lt is = cc
here_in all (p ∷ ps) (v ∷ vs) zero t e lt is = let f : v.items ≡ inner_of all p = cc in (p, refl, ap (λ w. w.items) is ∙ f)
here_in all (p ∷ ps) (v ∷ vs) (suc n) t e lt is = let f : map (λ w. w.items) vs ≡ map (inner_of all) ps = cc in here_in all ps vs n t f (omega arith) is

pub here_of : (parts : List Part) (tables : List (Vec (Option ℕ) Global)) (n : ℕ) (t : Vec (Option ℕ) Global) → AreInner parts tables → n < length parts → t ≡ get_or tables n t → Here parts n t.items
here_of parts tables n t e lt is = let (p, q, r) = here_in parts parts tables n t e lt is in record { part = p; is = q; inner_is = r }

-- component i of a part, and what it is an instance of
pub record ItemAt (parts : List Part) (part : Part) (i : ℕ) (o : Option ℕ) : Type 0 where
  pub comp : Component
  pub lt : i < length part.components.items
  pub is : comp ≡ get_or part.components.items i comp
  pub stands : slice_get part.components.items i ≡ Some comp
  pub number : number_named parts comp.name.items ≡ o

mapped : {A B : Type 0} (f : A → B) (xs : List A) (i : ℕ) (d o : B) → i < length (map f xs) → get_or (map f xs) i d ≡ o → (x : A) × (i < length xs) × (x ≡ get_or xs i x) × (slice_get xs i ≡ Some x) × (f x ≡ o)
mapped f [] i d o lt is = absurd (omega arith)
mapped f (x ∷ xs) zero d o lt is = (x, omega arith, refl, refl, is)
mapped f (x ∷ xs) (suc i) d o lt is = let (y, l, e, s, n) = mapped f xs i d o (omega arith) is in (y, omega (arith, l), e, s, n)

pub item_at : (parts : List Part) (part : Part) (inner : List (Option ℕ)) (i : ℕ) (o : Option ℕ) → inner ≡ inner_of parts part → i < length inner → get_or inner i None ≡ o → ItemAt parts part i o
item_at parts part inner i o e lt is =
    let (x, l, g, s, n) = mapped (λ (c : Component). number_named parts c.name.items) part.components.items i None o (subst (λ (ys : List (Option ℕ)). i < length ys) e lt) (subst (λ (ys : List (Option ℕ)). get_or ys i None ≡ o) e is) in
    record { comp = x; lt = l; is = g; stands = s; number = n }

-- component i of the part of this number
pub record ItemHere (parts : List Part) (n i : ℕ) (o : Option ℕ) : Type 0 where
  pub part : Part
  pub at : slice_get parts n ≡ Some part
  pub item : ItemAt parts part i o

pub item_here : (parts : List Part) (tables : List (Vec (Option ℕ) Global)) (n i : ℕ) (t : Vec (Option ℕ) Global) (inner : List (Option ℕ)) (o : Option ℕ) → AreInner parts tables → n < length parts → t ≡ get_or tables n t
    → inner ≡ (get_or tables n t).items → i < length inner → get_or inner i None ≡ o → ItemHere parts n i o
item_here parts tables n i t inner o tables_are within is of lt at =
    let here = here_of parts tables n t tables_are within is in
    record { part = here.part; at = here.is; item = item_at parts here.part inner i o (of ∙ ap (λ v. v.items) (sym is) ∙ here.inner_is) lt at }

pub whole_here : (parts : List Part) (tables : List (Vec (Option ℕ) Global)) (n i : ℕ) (t : Vec (Option ℕ) Global) (inner : List (Option ℕ)) → AreInner parts tables → n < length parts → t ≡ get_or tables n t
    → inner ≡ (get_or tables n t).items → length inner ≤ i → take i (components_of parts n) ≡ components_of parts n
whole_here parts tables n i t inner tables_are within is of le =
    let here = here_of parts tables n t tables_are within is in
    let len : length inner ≡ length here.part.components.items = ap length (of ∙ ap (λ v. v.items) (sym is) ∙ here.inner_is) ∙ length-map here.part.components.items (λ (c : Component). number_named parts c.name.items) in
    take_all i (components_of parts n) (omega (arith, le, len, ap length (comps_are parts n here.part here.is)))

pub inner_within : (parts : List Part) (n i m : ℕ) → ItemHere parts n i (Some m) → m < length parts
inner_within parts n i m it = named_within parts it.item.comp.name.items m it.item.number

pub inner_number_is : (parts : List Part) (n i m : ℕ) → ItemHere parts n i (Some m) → inner_number parts n (i + 1) ≡ Some m
inner_number_is parts n i m it = let e : i + 1 ≡ suc i = omega arith in rw (e, it.at, it.item.stands) it.item.number

-- The finds of one component.

pub of_component : (parts : List Part) (n : ℕ) (path : List ℕ) (go : List ℕ → ℕ → List Find) (i : ℕ) (c : Component) → number_named parts c.name.items ≡ None → found_at parts n path go i c ≡ component (record_at n path i) ∷ []
of_component parts n path go i c e = rw (e, found_at) refl

pub of_instance : (parts : List Part) (n m : ℕ) (path : List ℕ) (go : List ℕ → ℕ → List Find) (i : ℕ) (c : Component) → number_named parts c.name.items ≡ Some m → found_at parts n path go i c ≡ told (record_at n path i) (go (path ++ i ∷ []) m)
of_instance parts n m path go i c e = rw (e, found_at) refl

-- in a bare copy there is nothing
pub of_bare : (parts : List Part) (n m depth : ℕ) (path : List ℕ) (i : ℕ) (c : Component) (marks : List Bool) → number_named parts c.name.items ≡ Some m → AreBare parts marks → get_or marks m false ≡ true
    → found_at parts n path (found_in parts depth) i c ≡ []
of_bare parts n m depth path i c marks e bare mark = of_instance parts n m path (found_in parts depth) i c e ∙ ap (told (record_at n path i)) (bare.are m mark depth (path ++ i ∷ []))

-- a copy of depth d is its channels and what is below it
pub copy_is : (parts : List Part) (d : ℕ) (path : List ℕ) (m : ℕ) → 0 < d → found_in parts d path m ≡ inner_channels parts path m ++ below parts (d - 1) path m
copy_is parts zero path m h = absurd (omega arith)
copy_is parts (suc d) path m h = let e : suc d - 1 ≡ d = omega arith in rw e refl

same_test : (k j : ℕ) (a b : List code.Find) → k ≡ j → (if nat_eq k j then a else b) ≡ a
same_test k j a b h = search (rules, tests)

other_test : (k j : ℕ) (a b : List code.Find) → k ≢ j → (if nat_eq k j then a else b) ≡ b
other_test k j a b h = search (rules, tests)

take_front : {A : Type 0} (xs ys : List A) → take (length xs) (xs ++ ys) ≡ xs
take_front [] [] = refl
take_front [] (y ∷ ys) = refl
take_front (x ∷ xs) ys = ap (λ zs. x ∷ zs) (take_front xs ys)

map_take : {A B : Type 0} (f : A → B) (n : ℕ) (xs : List A) → map f (take n xs) ≡ take n (map f xs)
map_take f zero [] = refl
map_take f zero (x ∷ xs) = refl
map_take f (suc n) [] = refl
map_take f (suc n) (x ∷ xs) = ap (λ zs. f x ∷ zs) (map_take f n xs)

-- an instance that was told is taken away where nothing came behind it
pub settled : (old whole new : List code.Find) (upto : ℕ) (at : PathAt) (fs : List Find) → upto ≡ length old + 1 → map find_of whole ≡ map find_of old ++ instance at ∷ fs → Settled upto whole new → map find_of new ≡ map find_of old ++ told at fs
settled old whole new upto at [] n e s =
    let len : length whole ≡ upto = omega (arith, sym (length-map whole find_of) ∙ ap length e ∙ length-append (map find_of old) (instance at ∷ []), length-map old find_of, n) in
    let less : length whole - 1 ≡ length (map find_of old) = omega (arith, len, n, length-map old find_of) in
    let front : take (length whole - 1) (map find_of whole) ≡ map find_of old = ap (take (length whole - 1)) e ∙ ap (λ k. take k (map find_of old ++ instance at ∷ [])) less ∙ take_front (map find_of old) (instance at ∷ []) in
    let cut : new ≡ take (length whole - 1) whole = s ∙ same_test (length whole) upto (take (length whole - 1) whole) whole len in
    ap (map find_of) cut ∙ map_take find_of (length whole - 1) whole ∙ front ∙ sym (append-nil (map find_of old))
settled old whole new upto at (f ∷ fs) n e s =
    let len : length whole ≡ upto + suc (length fs) = omega (arith, sym (length-map whole find_of) ∙ ap length e ∙ length-append (map find_of old) (instance at ∷ f ∷ fs), length-map old find_of, n) in
    let kept : new ≡ whole = s ∙ other_test (length whole) upto (take (length whole - 1) whole) whole (omega (arith, len)) in
    ap (map find_of) kept ∙ e

-- The finds so far, and those of one component more.

abbrev upto : List Part → ℕ → List ℕ → ℕ → ℕ → List Find
upto parts n path d i = each_from 1 (found_at parts n path (found_in parts d)) (take i (components_of parts n))

item_step : (parts : List Part) (n : ℕ) (path : List ℕ) (d i : ℕ) (o : Option ℕ) (it : ItemHere parts n i o) (a b c : List Find) → b ≡ a ++ upto parts n path d i → c ≡ b ++ found_at parts n path (found_in parts d) (i + 1) it.item.comp
    → c ≡ a ++ upto parts n path d (i + 1)
item_step parts n path d i o it a b c e f =
    let F : ℕ → Component → List Find = found_at parts n path (found_in parts d) in
    let same = comps_are parts n it.part it.at in
    let lt : i < length (components_of parts n) = subst (λ (cs : List Component). i < length cs) (sym same) it.item.lt in
    let is : it.item.comp ≡ get_or (components_of parts n) i it.item.comp = subst (λ (cs : List Component). it.item.comp ≡ get_or cs i it.item.comp) (sym same) it.item.is in
    more a b c (upto parts n path d i) (F (i + 1) it.item.comp) e f ∙ ap (λ fs. a ++ fs) (sym (each_more F (components_of parts n) i it.item.comp lt is))

pub leaf_step : (parts : List Part) (n : ℕ) (path : List ℕ) (d i : ℕ) (old mid new : List code.Find) (f : code.Find) → ItemHere parts n i None → map find_of mid ≡ map find_of old ++ upto parts n path d i
    → new ≡ mid ++ f ∷ [] → find_of f ≡ component (record_at n path (i + 1)) → map find_of new ≡ map find_of old ++ upto parts n path d (i + 1)
leaf_step parts n path d i old mid new f it e push is =
    let one = of_component parts n path (found_in parts d) (i + 1) it.item.comp it.item.number in
    item_step parts n path d i None it (map find_of old) (map find_of mid) (map find_of new) e (ap (map find_of) push ∙ map-append find_of mid (f ∷ []) ∙ ap (λ g. map find_of mid ++ g ∷ []) is ∙ ap (λ fs. map find_of mid ++ fs) (sym one))

pub bare_step : (parts : List Part) (n : ℕ) (path : List ℕ) (d i m : ℕ) (marks : List Bool) (old mid : List code.Find) → ItemHere parts n i (Some m) → AreBare parts marks → get_or marks m false ≡ true
    → map find_of mid ≡ map find_of old ++ upto parts n path d i → map find_of mid ≡ map find_of old ++ upto parts n path d (i + 1)
bare_step parts n path d i m marks old mid it bare mark e =
    let none = of_bare parts n m d path (i + 1) it.item.comp marks it.item.number bare mark in
    item_step parts n path d i (Some m) it (map find_of old) (map find_of mid) (map find_of mid) e (sym (append-nil (map find_of mid)) ∙ ap (λ fs. map find_of mid ++ fs) (sym none))

pub copy_step : (parts : List Part) (n : ℕ) (path : List ℕ) (d i m : ℕ) (old mid f1 f2 f3 new : List code.Find) (g : code.Find) (inside1 inside2 : List ℕ) (count : ℕ) → ItemHere parts n i (Some m) → 0 < d
    → map find_of mid ≡ map find_of old ++ upto parts n path d i → f1 ≡ mid ++ g ∷ [] → find_of g ≡ instance (record_at n path (i + 1)) → inside1 ≡ path ++ (i + 1) ∷ [] → inside2 ≡ path ++ (i + 1) ∷ []
    → map find_of f2 ≡ map find_of f1 ++ inner_channels parts inside1 m → map find_of f3 ≡ map find_of f2 ++ below parts (d - 1) inside2 m → count ≡ length f1 → Settled count f3 new
    → map find_of new ≡ map find_of old ++ upto parts n path d (i + 1)
copy_step parts n path d i m old mid f1 f2 f3 new g inside1 inside2 count it deep e push is path1 path2 own rest many s =
    let at = record_at n path (i + 1) in
    let inside = path ++ (i + 1) ∷ [] in
    let told_here : map find_of f1 ≡ map find_of mid ++ instance at ∷ [] = ap (map find_of) push ∙ map-append find_of mid (g ∷ []) ∙ ap (λ h. map find_of mid ++ h ∷ []) is in
    let copy : map find_of f3 ≡ map find_of f1 ++ found_in parts d inside m =
    more (map find_of f1) (map find_of f2) (map find_of f3) (inner_channels parts inside m) (below parts (d - 1) inside m) (own ∙ ap (λ p. map find_of f1 ++ inner_channels parts p m) path1) (rest ∙ ap (λ p. map find_of f2 ++ below parts (d - 1) p m) path2)
    ∙ ap (λ fs. map find_of f1 ++ fs) (sym (copy_is parts d inside m deep)) in
    let all : map find_of f3 ≡ map find_of mid ++ instance at ∷ found_in parts d inside m =
    more (map find_of mid) (map find_of f1) (map find_of f3) (instance at ∷ []) (found_in parts d inside m) told_here copy in
    let len : count ≡ length mid + 1 = many ∙ ap length push ∙ length-append mid (g ∷ []) in
    let one = of_instance parts n m path (found_in parts d) (i + 1) it.item.comp it.item.number in
    item_step parts n path d i (Some m) it (map find_of old) (map find_of mid) (map find_of new) e (settled mid f3 new count at (found_in parts d inside m) len all s ∙ ap (λ fs. map find_of mid ++ fs) (sym one))

-- the whole walk: the top's channels, and what is below it
pub found_all : (parts : List Part) (n : ℕ) (part : Part) (none mid new : List code.Find) (count : ℕ) → slice_get parts n ≡ Some part → none ≡ [] → count ≡ length part.channels.items
    → map find_of mid ≡ map find_of none ++ channels_from n [] 1 (count - 0) → map find_of new ≡ map find_of mid ++ below parts most_instances [] n → map find_of new ≡ found parts n
unfolding found
found_all parts n part none mid new count at empty len own rest =
    let k : count - 0 ≡ length part.channels.items = omega (arith, len) in
    let tops : top_channels parts n ≡ channels_from n [] 1 (length part.channels.items) = rw (at, top_channels) refl in
    let first : map find_of mid ≡ top_channels parts n = own ∙ ap (λ fs. map find_of fs ++ channels_from n [] 1 (count - 0)) empty ∙ ap (channels_from n [] 1) k ∙ sym tops in
    rest ∙ ap (λ fs. fs ++ below parts most_instances [] n) first

-- Too many instances on a path.

reached_on : (parts : List Part) (n q m k : ℕ) (path : List ℕ) → inner_number parts n k ≡ Some q → number_at parts q path ≡ Some m → number_at parts n (path ++ k ∷ []) ≡ Some m
reached_on parts n q m k [] is e = is ∙ e
reached_on parts n q m k (i ∷ up) is e = elim (number_at parts q up) as (λ o. number_at parts q up ≡ o → number_at parts n ((i ∷ up) ++ k ∷ []) ≡ Some m) [
  | None ↦ λ f. let g = rw f at e in cc
  | Some w ↦ λ f. rw (reached_on parts n q w k up is f) (rw f at e)
] refl

pub deep_here : (parts : List Part) (n k m : ℕ) → inner_number parts n k ≡ Some m → IsDeeper parts n 0
deep_here parts n k m is = (k ∷ [], m, is, omega arith)

pub deep_below : (parts : List Part) (n k m depth : ℕ) → 0 < depth → inner_number parts n k ≡ Some m → IsDeeper parts m (depth - 1) → IsDeeper parts n depth
deep_below parts n k m depth h is (path, q, e, long) = (path ++ k ∷ [], q, reached_on parts n m q k path is e, omega (arith, long, length-append path (k ∷ [])))

-- Bare parts.

bare_each : (parts : List Part) (n d : ℕ) (path : List ℕ) (marks : List Bool) (k : ℕ) (cs : List Component) → AreBare parts marks → All (λ o. is_marked marks o ≡ true) (map (λ (c : Component). number_named parts c.name.items) cs)
    → each_from k (found_at parts n path (found_in parts d)) cs ≡ []
bare_each parts n d path marks k [] bare all = refl
bare_each parts n d path marks k (c ∷ cs) bare all =
    let P : Option ℕ → Type 0 = λ o. is_marked marks o ≡ true in
    let here = All-head P (number_named parts c.name.items) (map (λ (x : Component). number_named parts x.name.items) cs) all in
    let rest = bare_each parts n d path marks (suc k) cs bare (All-tail P (number_named parts c.name.items) (map (λ (x : Component). number_named parts x.name.items) cs) all) in
    let first : found_at parts n path (found_in parts d) k c ≡ [] = elim (number_named parts c.name.items) as (λ o. number_named parts c.name.items ≡ o → found_at parts n path (found_in parts d) k c ≡ []) [
      | None ↦ λ e. let f = rw e at here in cc
      | Some m ↦ λ e. of_bare parts n m d path k c marks e bare (rw e at here)
    ] refl in
    rw (first, rest) refl

no_channels : (n : ℕ) (path : List ℕ) (k j : ℕ) → j ≡ 0 → channels_from n path k j ≡ []
no_channels n path k zero e = refl
no_channels n path k (suc j) e = absurd (omega arith)

pub bare_part : (parts : List Part) (n : ℕ) (part : Part) (inner : List (Option ℕ)) (marks : List Bool) → slice_get parts n ≡ Some part → inner ≡ inner_of parts part → BringsNothing part inner marks → AreBare parts marks → IsBare parts n
bare_part parts n part inner marks at is nothing bare zero path = refl
bare_part parts n part inner marks at is nothing bare (suc d) path =
    let none = no_channels n path (suc (length part.ports.items)) (length part.channels.items - length part.ports.items) (omega (arith, nothing.ports)) in
    let each = bare_each parts n d path marks 1 part.components.items bare (subst (λ os. All (λ o. is_marked marks o ≡ true) os) is nothing.marked) in
    let F : ℕ → Component → List Find = found_at parts n path (found_in parts d) in
    ap (λ x. x ++ each_from 1 F (components_of parts n)) (chans_are parts path n part at ∙ none) ∙ ap (each_from 1 F) (comps_are parts n part at) ∙ each

pub one_mark : (parts : List Part) (marks : List Bool) (n : ℕ) → n < length parts → AreBare parts marks → IsBare parts n → AreBare parts (set marks n true)
one_mark parts marks n lt bare here = record {
  len = length-set marks n true ∙ bare.len;
  are = λ k e. elim (eqb_tells k n) [
    | inl same ↦ subst (IsBare parts) (sym same.1) here
    | inr other ↦ bare.are k (sym (get_or-set_other marks n k true false other.1) ∙ e)
  ];
}

-- a mark for a part that is bare by the marks
pub mark_here : (parts : List Part) (tables : List (Vec (Option ℕ) Global)) (marks : List Bool) (n : ℕ) (part : Part) (t : Vec (Option ℕ) Global) → AreInner parts tables → AreBare parts marks → n < length parts
    → part ≡ get_or parts n part → t ≡ get_or tables n t → BringsNothing part t.items marks → AreBare parts (set marks n true)
mark_here parts tables marks n part t inner bare lt is there nothing =
    let at : slice_get parts n ≡ Some part = slice_get_read parts (length parts) n part refl lt is in
    let here = here_of parts tables n t inner lt there in
    let same : here.part ≡ part = (let e : Some here.part ≡ Some part = sym here.is ∙ at in cc) in
    one_mark parts marks n lt bare (bare_part parts n part t.items marks at (subst (λ p. t.items ≡ inner_of parts p) same here.inner_is) nothing bare)

-- one channel more
pub channel_more : (n : ℕ) (path : List ℕ) (k j : ℕ) → channels_from n path k (j + 1) ≡ channels_from n path k j ++ channel (record_at n path (k + j)) ∷ []
channel_more n path k zero = let e : k + 0 ≡ k = omega arith in rw e refl
channel_more n path k (suc j) =
    let e : suc j + 1 ≡ suc (j + 1) = omega arith in
    let f : suc k + j ≡ k + suc j = omega arith in
    rw (e, ← f) (ap (λ fs. channel (record_at n path k) ∷ fs) (channel_more n path (suc k) j))

pub channels_more : (old mid new : List code.Find) (n : ℕ) (path : List ℕ) (ports k : ℕ) (f : code.Find) → ports ≤ k → find_of f ≡ channel (record_at n path (k + 1))
    → map find_of mid ≡ map find_of old ++ channels_from n path (suc ports) (k - ports) → new ≡ mid ++ f ∷ [] → map find_of new ≡ map find_of old ++ channels_from n path (suc ports) (k + 1 - ports)
channels_more old mid new n path ports k f le is e push =
    let j : k + 1 - ports ≡ (k - ports) + 1 = omega arith in
    let at : suc ports + (k - ports) ≡ k + 1 = omega arith in
    push_find old mid new (channels_from n path (suc ports) (k - ports)) f (channel (record_at n path (k + 1))) e push is
    ∙ ap (λ fs. map find_of old ++ fs) (ap (λ i. channels_from n path (suc ports) (k - ports) ++ channel (record_at n path i) ∷ []) (sym at) ∙ sym (channel_more n path (suc ports) (k - ports)) ∙ ap (channels_from n path (suc ports)) (sym j))

-- what the walk found, in three lists
pub located_more : (fs : List Find) (f : Find) → located (fs ++ f ∷ []) ≡ with_find (located fs) f
located_more fs f = rw (filter_map-append at_channel fs (f ∷ []), filter_map-append at_component fs (f ∷ []), filter_map-append at_instance fs (f ∷ [])) refl
