-- The parts below one, as they are found.
use Rattle.std.proofs.Common.{◌≡◌, ℕ, zero, suc, ◌+◌, ◌<◌, ◌≤◌, Bool, true, false, Option, None, Some, List, [], ◌∷◌, ◌++◌, length, ◌⊎◌, inl, inr, refl, sym, ◌∙◌, ap, subst, arith, slice_get, slice_set, get_or, length-append, replicate}
use Rattle.std.proofs.lemmas.List.{length-set, length-replicate, get_or-set_same, get_or-set_other}
use Rattle.std.proofs.lemmas.Bool.Decides.{eqb_tells, leb_tells}
use Rattle.std.proofs.lemmas.Option.{slice_get_within}
use Rattle.bz_breeze_records.specs.declared.part.Part.{Part}
use Rattle.bz_elab.specs.declared.reach.Marking.{Marking}
use Rattle.bz_breeze_records.specs.declared.part.Component.{Component}
use Rattle.bz_elab.specs.Paths.{Path, component}
use Rattle.bz_elab.specs.Numbers.{number_named, inner_number, number_at, IsBelow, IsReached, is_marked, Marks, unmarked, Marked, Spread}
use Rattle.bz_elab.proofs.Growing.{slice_get-left, slice_get-right}

both_some : {X : Type 0} {o : Option X} {x y : X} → o ≡ Some x → o ≡ Some y → y ≡ x
both_some e f = cc

-- the queue keeps what it has
pub queue_kept : (old new : Marking) (m j x : ℕ) → Marked old new m → slice_get old.queue.items j ≡ Some x → slice_get new.queue.items j ≡ Some x
queue_kept old new m j x h e = elim (is_marked old.marks.items m) as (λ b. is_marked old.marks.items m ≡ b → slice_get new.queue.items j ≡ Some x) [
  | true ↦ λ f. rw (h.same f) e
  | false ↦ λ f. rw (h.more f) (slice_get-left old.queue.items (m ∷ []) j x e)
] refl

some_at : {X : Type 0} (xs : List X) (j : ℕ) → j < length xs → (x : X) × (slice_get xs j ≡ Some x)
some_at [] j lt = absurd (omega arith)
some_at (x ∷ xs) zero lt = (x, refl)
some_at (x ∷ xs) (suc j) lt = some_at xs j (omega arith)

queue_back : (old new : Marking) (m j x : ℕ) → Marked old new m → j < length old.queue.items → slice_get new.queue.items j ≡ Some x → slice_get old.queue.items j ≡ Some x
queue_back old new m j x h lt e =
    let (y, is) = some_at old.queue.items j lt in
    let same : x ≡ y = both_some (queue_kept old new m j y h is) e in
    rw same is

marks_kept : (old new : Marking) (m x : ℕ) → Marked old new m → is_marked old.marks.items x ≡ true → is_marked new.marks.items x ≡ true
marks_kept old new m x h e = elim (eqb_tells x m) [
  | inl s ↦ rw s.1 h.here
  | inr d ↦ h.others x d.1 ∙ e
]

-- what is new in the queue is what was marked
queue_new : (old new : Marking) (m j x : ℕ) → Marked old new m → slice_get new.queue.items j ≡ Some x → (slice_get old.queue.items j ≡ Some x) ⊎ (x ≡ m)
queue_new old new m j x h e = elim (leb_tells (length old.queue.items) j) [
  | inr lt ↦ inl (queue_back old new m j x h lt.1 e)
  | inl le ↦ elim (is_marked old.marks.items m) as (λ b. is_marked old.marks.items m ≡ b → (slice_get old.queue.items j ≡ Some x) ⊎ (x ≡ m)) [
    | true ↦ λ f. inl (rw (h.same f) at e)
    | false ↦ λ f.
        let w = slice_get_within new.queue.items j x e in
        let n = ap length (h.more f) ∙ length-append old.queue.items (m ∷ []) in
        let at : j ≡ length old.queue.items + 0 = omega (arith, w, n, le.1) in
        let there : slice_get (old.queue.items ++ m ∷ []) (length old.queue.items + 0) ≡ Some x = rw (← at, ← h.more f) e in
        inr (both_some (slice_get-right old.queue.items (m ∷ []) 0) there)
  ] refl
]

-- what an instance of a part that is reached is of is below
below_more : (parts : List Part) (start n i m : ℕ) → (n ≡ start) ⊎ IsBelow parts start n → inner_number parts n i ≡ Some m → IsBelow parts start m
below_more parts start n i m (inl e) is = (i, [], rw (← e) is)
below_more parts start n i m (inr (j, up, at)) is = (i, j ∷ up, rw at is)

pub inner_zero : (parts : List Part) (n m : ℕ) → inner_number parts n 0 ≡ Some m → ⊥
inner_zero parts n m e = elim (slice_get parts n) as (λ o. slice_get parts n ≡ o → ⊥) [
  | None ↦ λ f. let g = rw f at e in cc
  | Some p ↦ λ f. let g = rw f at e in cc
] refl

-- a component that is no instance
pub spread_none : (parts : List Part) (start head i n : ℕ) (r : Marking) → Spread parts start head i r → slice_get r.queue.items head ≡ Some n → inner_number parts n (suc i) ≡ None
    → Spread parts start head (suc i) r
spread_none parts start head i n r s at none = record {
  len = s.len;
  begins = s.begins;
  sound = s.sound;
  queued = s.queued;
  present = s.present;
  count = s.count;
  done = λ j x k m le e is. elim le [
    | inl lt ↦ s.done j x k m (inl lt) e is
    | inr (here, to) ↦ elim (eqb_tells k (suc i)) [
      | inl h ↦
          let same : x ≡ n = both_some (rw here at) e in
          let no = rw (same, h.1) at is in
          let clash = rw none at no in
          cc
      | inr d ↦ s.done j x k m (inr (here, omega (arith, to, d.1))) e is
    ]
  ];
}

-- an instance
pub spread_some : (parts : List Part) (start head i n m : ℕ) (old new : Marking) → Spread parts start head i old → slice_get old.queue.items head ≡ Some n → inner_number parts n (suc i) ≡ Some m
    → Marked old new m → Spread parts start head (suc i) new
spread_some parts start head i n m old new s at some h =
    let from : (n ≡ start) ⊎ IsBelow parts start n = elim (s.queued head n at) [ inl e ↦ inl e | inr e ↦ inr (s.sound n e) ] in
    record {
      len = h.len ∙ s.len;
      begins = queue_kept old new m 0 start h s.begins;
      sound = λ x e. elim (eqb_tells x m) [
        | inl same ↦ subst (λ (y : ℕ). IsBelow parts start y) (sym same.1) (below_more parts start n (suc i) m from some)
        | inr d ↦ s.sound x (sym (h.others x d.1) ∙ e)
      ];
      queued = λ j x e. elim (queue_new old new m j x h e) [
        | inl there ↦ elim (s.queued j x there) [ inl f ↦ inl f | inr f ↦ inr (marks_kept old new m x h f) ]
        | inr same ↦ inr (rw same h.here)
      ];
      present = λ x e. elim (eqb_tells x m) [
        | inr d ↦ let (j, there) = s.present x (sym (h.others x d.1) ∙ e) in (j, queue_kept old new m j x h there)
        | inl same ↦ elim (is_marked old.marks.items m) as (λ b. is_marked old.marks.items m ≡ b → (j : ℕ) × (slice_get new.queue.items j ≡ Some x)) [
          | true ↦ λ f. let (j, there) = s.present m f in (j, rw same.1 (queue_kept old new m j m h there))
          | false ↦ λ f. (length old.queue.items + 0, rw (h.more f, same.1) (slice_get-right old.queue.items (m ∷ []) 0))
        ] refl
      ];
      done = λ j x k y le e is.
          let w = slice_get_within old.queue.items head n at in
          let back : slice_get old.queue.items j ≡ Some x = queue_back old new m j x h (elim le [ inl lt ↦ omega (arith, lt, w) | inr (here, to) ↦ omega (arith, here, w) ]) e in
          elim le [
            | inl lt ↦ marks_kept old new m y h (s.done j x k y (inl lt) back is)
            | inr (here, to) ↦ elim (eqb_tells k (suc i)) [
              | inl f ↦
                  let same : x ≡ n = both_some (rw here at) back in
                  let there = rw (same, f.1) at is in
                  let it : y ≡ m = both_some some there in
                  rw it h.here
              | inr d ↦ marks_kept old new m y h (s.done j x k y (inr (here, omega (arith, to, d.1))) back is)
            ]
          ];
      count = h.count ∙ s.count;
    }

inner_within : (parts : List Part) (n k m : ℕ) (p : Part) → slice_get parts n ≡ Some p → inner_number parts n k ≡ Some m → k ≤ length p.components.items
inner_within parts n zero m p e is = omega arith
inner_within parts n (suc k) m p e is = elim (slice_get p.components.items k) as (λ o. slice_get p.components.items k ≡ o → suc k ≤ length p.components.items) [
  | None ↦ λ f. let g = rw (e, f) at is in cc
  | Some c ↦ λ f. let w = slice_get_within p.components.items k c f in omega (arith, w)
] refl

-- all its components
pub spread_next : (parts : List Part) (start head i n : ℕ) (p : Part) (r : Marking) → Spread parts start head i r → slice_get r.queue.items head ≡ Some n → slice_get parts n ≡ Some p
    → length p.components.items ≤ i → Spread parts start (head + 1) 0 r
spread_next parts start head i n p r s at is all = record {
  len = s.len;
  begins = s.begins;
  sound = s.sound;
  queued = s.queued;
  present = s.present;
  count = s.count;
  done = λ j x k m le e inside. elim (eqb_tells j head) [
    | inl h ↦
        let same : x ≡ n = both_some (rw h.1 at) e in
        let w = inner_within parts n k m p is (rw same at inside) in
        s.done j x k m (inr (h.1, omega (arith, w, all))) e inside
    | inr d ↦ elim le [
      | inl lt ↦ s.done j x k m (inl (omega (arith, lt, d.1))) e inside
      | inr (here, to) ↦ let z : k ≡ 0 = omega (arith, to) in absurd (inner_zero parts x m (rw z at inside))
    ]
  ];
}

-- nothing is left in the queue
pub spread_past : (parts : List Part) (start head : ℕ) (r : Marking) → Spread parts start head 0 r → length r.queue.items ≤ head → Spread parts start (head + 1) 0 r
spread_past parts start head r s all = record {
  len = s.len;
  begins = s.begins;
  sound = s.sound;
  queued = s.queued;
  present = s.present;
  count = s.count;
  done = λ j x k m le e inside.
      let w = slice_get_within r.queue.items j x e in
      s.done j x k m (inl (omega (arith, w, all))) e inside;
}

spread_closed : (parts : List Part) (start head : ℕ) (r : Marking) → Spread parts start head 0 r → length r.queue.items ≤ head → (up : Path) (i m : ℕ) → number_at parts start (i ∷ up) ≡ Some m
    → is_marked r.marks.items m ≡ true
spread_closed parts start head r s all [] i m e =
    let w = slice_get_within r.queue.items 0 start s.begins in
    s.done 0 start i m (inl (omega (arith, w, all))) s.begins e
spread_closed parts start head r s all (j ∷ up) i m e = elim (number_at parts start (j ∷ up)) as (λ o. number_at parts start (j ∷ up) ≡ o → is_marked r.marks.items m ≡ true) [
  | None ↦ λ f. let g = rw f at e in cc
  | Some n ↦ λ f.
      let (k, there) = s.present n (spread_closed parts start head r s all up j n f) in
      let w = slice_get_within r.queue.items k n there in
      s.done k n i m (inl (omega (arith, w, all))) there (rw f at e)
] refl

pub spread_all : (parts : List Part) (start head : ℕ) (r : Marking) → Spread parts start head 0 r → length parts + 1 ≤ head → Marks parts (IsBelow parts start) r.marks.items
spread_all parts start head r s all =
    let few : length r.queue.items ≤ head = omega (arith, s.count, all) in
    record {
      len = s.len;
      sound = s.sound;
      whole = λ m (i, up, e). spread_closed parts start head r s few up i m e;
    }

-- component i of part n, as it stands
pub inner_is : (parts : List Part) (n i : ℕ) (p : Part) (c : Component) → slice_get parts n ≡ Some p → component p i ≡ Some c → inner_number parts n i ≡ number_named parts c.name.items
inner_is parts n i p c e f = rw (e, f) refl

pub marked_new : (old new : Marking) (n : ℕ) → n < length old.marks.items → is_marked old.marks.items n ≡ false → new.marks.items ≡ slice_set old.marks.items n true → new.queue.items ≡ old.queue.items ++ n ∷ []
    → Marked old new n
marked_new old new n lt clear marks queue = record {
  len = rw marks (length-set old.marks.items n true);
  here = rw marks (get_or-set_same old.marks.items n true false lt);
  others = λ m other. rw marks (get_or-set_other old.marks.items n m true false other);
  same = λ e. let clash = rw clear at e in cc;
  more = λ e. queue;
  count =
      let less = one_less old.marks.items n lt clear in
      let one = length-append old.queue.items (n ∷ []) in
      rw (marks, queue) (omega (arith, less, one));
}
  where
    one_less : (ms : List Bool) (n : ℕ) → n < length ms → is_marked ms n ≡ false → unmarked ms ≡ suc (unmarked (slice_set ms n true))
    one_less [] n lt e = absurd (omega arith)
    one_less (m ∷ ms) zero lt e = let f : m ≡ false = e in rw f refl
    one_less (true ∷ ms) (suc n) lt e = one_less ms n (omega arith) e
    one_less (false ∷ ms) (suc n) lt e = ap suc (one_less ms n (omega arith) e)

all_false : (n m : ℕ) → is_marked (replicate n false) m ≡ true → ⊥
all_false zero m e = cc
all_false (suc n) zero e = cc
all_false (suc n) (suc m) e = all_false n m e

all_unmarked : (n : ℕ) → unmarked (replicate n false) ≡ n
all_unmarked zero = refl
all_unmarked (suc n) = ap suc (all_unmarked n)

-- at the start, nothing is marked
pub spread_start : (parts : List Part) (start : ℕ) (r : Marking) → r.marks.items ≡ replicate (length parts) false → r.queue.items ≡ start ∷ [] → Spread parts start 0 0 r
spread_start parts start r marks queue = record {
  len = rw marks (length-replicate (length parts) false);
  begins = rw queue refl;
  sound = λ m e. absurd (all_false (length parts) m (rw marks at e));
  queued = λ j m e. inl (only j m (rw queue at e));
  present = λ m e. absurd (all_false (length parts) m (rw marks at e));
  done = λ j n k m le e inside. elim le [
    | inl lt ↦ absurd (omega (arith, lt))
    | inr (here, to) ↦ let z : k ≡ 0 = omega (arith, to) in absurd (inner_zero parts n m (rw z at inside))
  ];
  count = let n = all_unmarked (length parts) in rw (marks, queue) (omega (arith, n));
}
  where
    only : (j m : ℕ) → slice_get (start ∷ []) j ≡ Some m → m ≡ start
    only zero m e = cc
    only (suc j) m e = cc

pub same_read : {X : Type 0} (xs : List X) (n : ℕ) (d e : X) → n < length xs → get_or xs n d ≡ get_or xs n e
same_read [] n d e lt = absurd (omega arith)
same_read (x ∷ xs) zero d e lt = refl
same_read (x ∷ xs) (suc n) d e lt = same_read xs n d e (omega arith)

pub read_at : {X : Type 0} (xs : List X) (n : ℕ) (d x : X) → n < length xs → x ≡ get_or xs n d → slice_get xs n ≡ Some x
read_at [] n d x lt e = absurd (omega arith)
read_at (y ∷ ys) zero d x lt e = ap (λ z. Some z) (sym e)
read_at (y ∷ ys) (suc n) d x lt e = read_at ys n d x (omega arith) e

marked_within : (ms : List Bool) (m : ℕ) → is_marked ms m ≡ true → m < length ms
marked_within [] m e = cc
marked_within (x ∷ xs) zero e = omega arith
marked_within (x ∷ xs) (suc m) e = let lt = marked_within xs m e in omega (arith, lt)

pub queue_within : (parts : List Part) (start head upto : ℕ) (r : Marking) (j m : ℕ) → Spread parts start head upto r → start < length parts → slice_get r.queue.items j ≡ Some m → m < length parts
queue_within parts start head upto r j m s lt e = elim (s.queued j m e) [
  | inl same ↦ omega (arith, same, lt)
  | inr marked ↦ let w = marked_within r.marks.items m marked in omega (arith, w, s.len)
]

-- the part itself with those below it
pub reached_all : (parts : List Part) (start : ℕ) (ms : List Bool) → start < length parts → Marks parts (IsBelow parts start) ms → Marks parts (IsReached parts start) (slice_set ms start true)
reached_all parts start ms lt m =
    let within : start < length ms = omega (arith, m.len, lt) in
    let here : is_marked (slice_set ms start true) start ≡ true = get_or-set_same ms start true false within in
    record {
      len = length-set ms start true ∙ m.len;
      sound = λ n e. elim (eqb_tells n start) [
        | inl s ↦ ([], ap (λ k. Some k) (sym s.1))
        | inr d ↦ let (i, up, at) = m.sound n (sym (get_or-set_other ms start n true false d.1) ∙ e) in (i ∷ up, at)
      ];
      whole = λ n h. elim (eqb_tells n start) [
        | inl s ↦ rw s.1 here
        | inr d ↦ get_or-set_other ms start n true false d.1 ∙ m.whole n (deeper n d.1 h)
      ];
    }
  where
    deeper : (n : ℕ) → (n ≡ start → ⊥) → IsReached parts start n → IsBelow parts start n
    deeper n other ([], e) = let same : n ≡ start = cc in absurd (other same)
    deeper n other (i ∷ up, e) = (i, up, e)
