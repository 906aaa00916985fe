-- Entries, and the ports that they stand for.
use Rattle.std.proofs.Common.{◌≡◌, ℕ, zero, suc, ◌+◌, ◌<◌, ◌≢◌, true, false, not, None, Some, List, [], ◌∷◌, ◌++◌, length, map, drop, take, refl, sym, ◌∙◌, ap, arith, get_or, set, zero-add, append_assoc, length-append, count_by, slice_get, if◌then◌else◌, cond, ◌⊎◌, inl, inr, Bool, ◌↔◌, IsTrue}
use Rattle.std.specs.List.{All}
use Rattle.std.proofs.lemmas.List.{take_more, drop_more, drop-drop}
use Rattle.std.proofs.lemmas.List.Elements.{filter_map-append, All-nil, All-cons, All-head, All-tail, All-append}
use Rattle.std.proofs.lemmas.List.Sums.{sum_by-cons}
use Rattle.bz_model.specs.Rows.{PortRow, row_of, rows, kind_name}
use Rattle.bz_kind_rows.specs.declared.ports.PortRow as code
use Rattle.bz_kind_rows.specs.Table.{seen}
use Rattle.bz_breeze_records.specs.declared.part.Slot.{Slot}
use Rattle.bz_breeze_records.specs.declared.part.Slot.TheVariants.{One, Many}
use Rattle.bz_model.specs.declared.channel.Chan.{Chan}
use Rattle.bz_model.specs.declared.kind.Kind.{Kind}
use Rattle.bz_model.specs.declared.kind_rules.EntryOrder.{EntryOrder}
use Rattle.bz_model.specs.declared.kind_rules.EntryOrder.TheVariants.{AsPorts, GuardSecond, GuardInFront}
use Rattle.bz_elab.specs.Entries.{flattened, named_in, singles, lists, list_of, first_list, in_row, pulls, guard_second, guard_in_front, put_by, arranged}
use Rattle.std.proofs.Math.ListN.{get_or-map as read-map}

pub drop_item : {X : Type 0} (xs : List X) (i : ℕ) (x : X) → i < length xs → x ≡ get_or xs i x → drop i xs ≡ x ∷ drop (i + 1) xs
drop_item xs i x lt is = drop_more xs i x lt ∙ ap (λ y. y ∷ drop (i + 1) xs) (sym is)

pub take_item : {X : Type 0} (xs : List X) (i : ℕ) (x : X) → i < length xs → x ≡ get_or xs i x → take (i + 1) xs ≡ take i xs ++ x ∷ []
take_item xs i x lt is = take_more xs i x lt ∙ ap (λ y. take i xs ++ y ∷ []) (sym is)

-- the lists with one entry more, and those from an entry on
pub lists-take : (es : List Slot) (i : ℕ) (e : Slot) → i < length es → e ≡ get_or es i e → lists (take (i + 1) es) ≡ lists (take i es) ++ lists (e ∷ [])
lists-take es i e lt is = ap lists (take_item es i e lt is) ∙ filter_map-append list_of (take i es) (e ∷ [])

pub lists-drop : (es : List Slot) (i : ℕ) (e : Slot) → i < length es → e ≡ get_or es i e → lists (drop i es) ≡ lists (e ∷ []) ++ lists (drop (i + 1) es)
lists-drop es i e lt is = ap lists (drop_item es i e lt is) ∙ filter_map-append list_of (e ∷ []) (drop (i + 1) es)

-- entries are single ones and lists
pub length-split : (es : List Slot) → length (singles es) + length (lists es) ≡ length es
length-split [] = refl
length-split (One k ∷ es) = let h = length-split es in omega (arith, h)
length-split (Many ks ∷ es) = let h = length-split es in omega (arith, h)

abbrev single_count : List PortRow → ℕ
single_count rs = count_by (λ r. not r.array) rs

abbrev array_count : List PortRow → ℕ
array_count rs = count_by (λ r. r.array) rs

record CountsArray (r : PortRow) (rs : List PortRow) : Type 0 where
  is : r.array ≡ true
  singles_are : single_count (r ∷ rs) ≡ single_count rs
  arrays_are : array_count (r ∷ rs) ≡ suc (array_count rs)

record CountsSingle (r : PortRow) (rs : List PortRow) : Type 0 where
  is : r.array ≡ false
  singles_are : single_count (r ∷ rs) ≡ suc (single_count rs)
  arrays_are : array_count (r ∷ rs) ≡ array_count rs

counts : (r : PortRow) (rs : List PortRow) → CountsArray r rs ⊎ CountsSingle r rs
counts r rs =
    let s = sum_by-cons (λ (q : PortRow). cond (not q.array) 1 0) r rs in
    let t = sum_by-cons (λ (q : PortRow). cond q.array 1 0) r rs in
    elim r.array as (λ v. r.array ≡ v → CountsArray r rs ⊎ CountsSingle r rs) [
      | true ↦ λ e. inl (record {
        is = e;
        singles_are = s ∙ (ap (λ v. cond (not v) 1 0 + single_count rs) e ∙ zero-add (single_count rs));
        arrays_are = t ∙ (ap (λ v. cond v 1 0 + array_count rs) e ∙ omega arith);
      })
      | false ↦ λ e. inr (record {
        is = e;
        singles_are = s ∙ (ap (λ v. cond (not v) 1 0 + single_count rs) e ∙ omega arith);
        arrays_are = t ∙ (ap (λ v. cond v 1 0 + array_count rs) e ∙ zero-add (array_count rs));
      })
    ] refl

pub count-split : (rs : List PortRow) → single_count rs + array_count rs ≡ length rs
count-split [] = refl
count-split (r ∷ rs) = let h = count-split rs in elim (counts r rs) [
  | inl n ↦ omega (arith, h, n.singles_are, n.arrays_are)
  | inr n ↦ omega (arith, h, n.singles_are, n.arrays_are)
]

-- what holds of all that entries name holds of the single ones and of the members of the lists
abbrev pub AllMembers : (ℕ → Type 0) → List (List ℕ) → Type 0
AllMembers P [] = Unit {0}
AllMembers P (l ∷ ls) = All P l × AllMembers P ls

all_left : (P : ℕ → Type 0) (xs ys : List ℕ) → All P (xs ++ ys) → All P xs
all_left P [] ys h = All-nil P
all_left P (x ∷ xs) ys h = All-cons P x xs (All-head P x (xs ++ ys) h) (all_left P xs ys (All-tail P x (xs ++ ys) h))

all_right : (P : ℕ → Type 0) (xs ys : List ℕ) → All P (xs ++ ys) → All P ys
all_right P [] ys h = h
all_right P (x ∷ xs) ys h = all_right P xs ys (All-tail P x (xs ++ ys) h)

all_singles : (P : ℕ → Type 0) (es : List Slot) → All P (flattened es) → All P (singles es)
all_singles P [] h = All-nil P
all_singles P (One k ∷ es) h = All-cons P k (singles es) (All-head P k (flattened es) h) (all_singles P es (All-tail P k (flattened es) h))
all_singles P (Many ks ∷ es) h = all_singles P es (all_right P ks.items (flattened es) h)

all_lists : (P : ℕ → Type 0) (es : List Slot) → All P (flattened es) → AllMembers P (lists es)
all_lists P [] h = tt
all_lists P (One k ∷ es) h = all_lists P es (All-tail P k (flattened es) h)
all_lists P (Many ks ∷ es) h = (all_left P ks.items (flattened es) h, all_lists P es (all_right P ks.items (flattened es) h))

all_take : (P : ℕ → Type 0) (xs : List ℕ) → All P xs → All P (take 1 xs)
all_take P [] h = All-nil P
all_take P (x ∷ xs) h = All-cons P x [] (All-head P x xs h) (All-nil P)

all_drop : (P : ℕ → Type 0) (xs : List ℕ) → All P xs → All P (drop 1 xs)
all_drop P [] h = All-nil P
all_drop P (x ∷ xs) h = All-tail P x xs h

all_in_row : (P : ℕ → Type 0) (rs : List PortRow) (ones : List ℕ) (manys : List (List ℕ)) → All P ones → AllMembers P manys → All P (in_row rs ones manys)
all_in_row P [] ones manys a b = All-nil P
all_in_row P (r ∷ rs) ones [] a b = elim r.array as (λ v. All P (if v then [] ++ in_row rs ones [] else take 1 ones ++ in_row rs (drop 1 ones) [])) [
  | true ↦ all_in_row P rs ones [] a tt
  | false ↦ All-append P (take 1 ones) (in_row rs (drop 1 ones) []) (all_take P ones a) (all_in_row P rs (drop 1 ones) [] (all_drop P ones a) tt)
]
all_in_row P (r ∷ rs) ones (l ∷ ls) a b = elim r.array as (λ v. All P (if v then l ++ in_row rs ones ls else take 1 ones ++ in_row rs (drop 1 ones) (l ∷ ls))) [
  | true ↦ All-append P l (in_row rs ones ls) b.0 (all_in_row P rs ones ls a b.1)
  | false ↦ All-append P (take 1 ones) (in_row rs (drop 1 ones) (l ∷ ls)) (all_take P ones a) (all_in_row P rs (drop 1 ones) (l ∷ ls) (all_drop P ones a) b)
]

-- what holds of all that entries name holds of the channels in the order of a row
pub all_rows : (P : ℕ → Type 0) (rs : List PortRow) (es : List Slot) → All P (flattened es) → All P (in_row rs (singles es) (lists es))
all_rows P rs es h = all_in_row P rs (singles es) (lists es) (all_singles P es h) (all_lists P es h)

-- the order of a While has the same entries
all_three : (P : ℕ → Type 0) (a b c : ℕ) → P a → P b → P c → All P (a ∷ b ∷ c ∷ [])
all_three P a b c x y z = All-cons P a (b ∷ c ∷ []) x (All-cons P b (c ∷ []) y (All-cons P c [] z (All-nil P)))

all_guard : (P : ℕ → Type 0) (chans : List Chan) (ks : List ℕ) → All P ks → All P (guard_second chans ks)
all_guard P chans [] h = h
all_guard P chans (a ∷ []) h = h
all_guard P chans (a ∷ b ∷ []) h = h
all_guard P chans (a ∷ b ∷ c ∷ d ∷ ks) h = h
all_guard P chans (a ∷ b ∷ c ∷ []) h =
    let x = h 0 a (omega arith) in
    let y = h 1 b (omega arith) in
    let z = h 2 c (omega arith) in
    elim (pulls chans a) as (λ v. All P (if v then b ∷ a ∷ c ∷ [] else (if pulls chans b then a ∷ b ∷ c ∷ [] else (if pulls chans c then a ∷ c ∷ b ∷ [] else a ∷ b ∷ c ∷ [])))) [
      | true ↦ all_three P b a c y x z
      | false ↦ elim (pulls chans b) as (λ v. All P (if v then a ∷ b ∷ c ∷ [] else (if pulls chans c then a ∷ c ∷ b ∷ [] else a ∷ b ∷ c ∷ []))) [
        | true ↦ h
        | false ↦ elim (pulls chans c) as (λ v. All P (if v then a ∷ c ∷ b ∷ [] else a ∷ b ∷ c ∷ [])) [ true ↦ all_three P a c b x z y | false ↦ h ]
      ]
    ]

length_guard : (chans : List Chan) (ks : List ℕ) → length (guard_second chans ks) ≡ length ks
length_guard chans [] = refl
length_guard chans (a ∷ []) = refl
length_guard chans (a ∷ b ∷ []) = refl
length_guard chans (a ∷ b ∷ c ∷ d ∷ ks) = refl
length_guard chans (a ∷ b ∷ c ∷ []) =
    elim (pulls chans a) as (λ v. length (if v then b ∷ a ∷ c ∷ [] else (if pulls chans b then a ∷ b ∷ c ∷ [] else (if pulls chans c then a ∷ c ∷ b ∷ [] else a ∷ b ∷ c ∷ []))) ≡ 3) [
      | true ↦ refl
      | false ↦ elim (pulls chans b) as (λ v. length (if v then a ∷ b ∷ c ∷ [] else (if pulls chans c then a ∷ c ∷ b ∷ [] else a ∷ b ∷ c ∷ [])) ≡ 3) [
        | true ↦ refl
        | false ↦ elim (pulls chans c) as (λ v. length (if v then a ∷ c ∷ b ∷ [] else a ∷ b ∷ c ∷ []) ≡ 3) [ true ↦ refl | false ↦ refl ]
      ]
    ]

-- three entries, exchanged or left
pub guard_first : (chans : List Chan) (ks : List ℕ) → length ks ≡ 3 → pulls chans (get_or ks 0 0) ≡ true → set (set ks 0 (get_or ks 1 0)) 1 (get_or ks 0 0) ≡ guard_second chans ks
guard_first chans [] l e = absurd (omega arith)
guard_first chans (a ∷ []) l e = absurd (omega arith)
guard_first chans (a ∷ b ∷ []) l e = absurd (omega arith)
guard_first chans (a ∷ b ∷ c ∷ d ∷ ks) l e = absurd (omega arith)
guard_first chans (a ∷ b ∷ c ∷ []) l e = rw e refl

pub guard_last : (chans : List Chan) (ks : List ℕ) → length ks ≡ 3 → pulls chans (get_or ks 0 0) ≡ false → pulls chans (get_or ks 1 0) ≡ false → pulls chans (get_or ks 2 0) ≡ true → set (set ks 1 (get_or ks 2 0)) 2 (get_or ks 1 0) ≡ guard_second chans ks
guard_last chans [] l e f g = absurd (omega arith)
guard_last chans (a ∷ []) l e f g = absurd (omega arith)
guard_last chans (a ∷ b ∷ []) l e f g = absurd (omega arith)
guard_last chans (a ∷ b ∷ c ∷ d ∷ ks) l e f g = absurd (omega arith)
guard_last chans (a ∷ b ∷ c ∷ []) l e f g = rw (e, f, g) refl

pub guard_stays : (chans : List Chan) (ks : List ℕ) → length ks ≡ 3 → pulls chans (get_or ks 0 0) ≡ false → pulls chans (get_or ks 1 0) ≡ true → ks ≡ guard_second chans ks
guard_stays chans [] l e f = refl
guard_stays chans (a ∷ []) l e f = refl
guard_stays chans (a ∷ b ∷ []) l e f = refl
guard_stays chans (a ∷ b ∷ c ∷ d ∷ ks) l e f = refl
guard_stays chans (a ∷ b ∷ c ∷ []) l e f = rw (e, f) refl

pub guard_none : (chans : List Chan) (ks : List ℕ) → length ks ≡ 3 → pulls chans (get_or ks 0 0) ≡ false → pulls chans (get_or ks 1 0) ≡ false → pulls chans (get_or ks 2 0) ≡ false → ks ≡ guard_second chans ks
guard_none chans [] l e f g = refl
guard_none chans (a ∷ []) l e f g = refl
guard_none chans (a ∷ b ∷ []) l e f g = refl
guard_none chans (a ∷ b ∷ c ∷ d ∷ ks) l e f g = refl
guard_none chans (a ∷ b ∷ c ∷ []) l e f g = rw (e, f, g) refl

pub guard_other : (chans : List Chan) (ks : List ℕ) → length ks ≢ 3 → ks ≡ guard_second chans ks
guard_other chans [] l = refl
guard_other chans (a ∷ []) l = refl
guard_other chans (a ∷ b ∷ []) l = refl
guard_other chans (a ∷ b ∷ c ∷ []) l = absurd (l refl)
guard_other chans (a ∷ b ∷ c ∷ d ∷ ks) l = refl

all_front : (P : ℕ → Type 0) (chans : List Chan) (ks : List ℕ) → All P ks → All P (guard_in_front chans ks)
all_front P chans [] h = h
all_front P chans (a ∷ []) h = h
all_front P chans (a ∷ b ∷ ks) h =
    let x = All-head P a (b ∷ ks) h in
    let t = All-tail P a (b ∷ ks) h in
    let y = All-head P b ks t in
    let u = All-tail P b ks t in
    elim (pulls chans a) as (λ v. All P (if v then a ∷ b ∷ ks else (if pulls chans b then b ∷ a ∷ ks else a ∷ b ∷ ks))) [
      | true ↦ h
      | false ↦ elim (pulls chans b) as (λ v. All P (if v then b ∷ a ∷ ks else a ∷ b ∷ ks)) [ true ↦ All-cons P b (a ∷ ks) y (All-cons P a ks x u) | false ↦ h ]
    ]

length_front : (chans : List Chan) (ks : List ℕ) → length (guard_in_front chans ks) ≡ length ks
length_front chans [] = refl
length_front chans (a ∷ []) = refl
length_front chans (a ∷ b ∷ ks) =
    elim (pulls chans a) as (λ v. length (if v then a ∷ b ∷ ks else (if pulls chans b then b ∷ a ∷ ks else a ∷ b ∷ ks)) ≡ length (a ∷ b ∷ ks)) [
      | true ↦ refl
      | false ↦ elim (pulls chans b) as (λ v. length (if v then b ∷ a ∷ ks else a ∷ b ∷ ks) ≡ length (a ∷ b ∷ ks)) [ true ↦ refl | false ↦ refl ]
    ]

all_order : (P : ℕ → Type 0) (order : EntryOrder) (chans : List Chan) (ks : List ℕ) → All P ks → All P (put_by order chans ks)
all_order P AsPorts chans ks h = h
all_order P GuardSecond chans ks h = all_guard P chans ks h
all_order P GuardInFront chans ks h = all_front P chans ks h

length_order : (order : EntryOrder) (chans : List Chan) (ks : List ℕ) → length (put_by order chans ks) ≡ length ks
length_order AsPorts chans ks = refl
length_order GuardSecond chans ks = length_guard chans ks
length_order GuardInFront chans ks = length_front chans ks

pub all_arranged : (P : ℕ → Type 0) (kind : Kind) (chans : List Chan) (es : List Slot) → All P (flattened es) → All P (arranged kind chans es)
all_arranged P kind chans es h = all_order P (rows (kind_name kind)).entries chans (in_row (row_of kind) (singles es) (lists es)) (all_rows P (row_of kind) es h)

-- Where there is an entry for each port, none is left out.

abbrev total : List (List ℕ) → ℕ
total [] = 0
total (l ∷ ls) = length l + total ls

length-flattened : (es : List Slot) → length (flattened es) ≡ length (singles es) + total (lists es)
length-flattened [] = refl
length-flattened (One k ∷ es) = let h = length-flattened es in omega (arith, h)
length-flattened (Many ks ∷ es) = let h = length-flattened es in let a = length-append ks.items (flattened es) in omega (arith, h, a)

length-in_row : (rs : List PortRow) (ones : List ℕ) (manys : List (List ℕ)) → length ones ≡ single_count rs → length manys ≡ array_count rs
    → length (in_row rs ones manys) ≡ length ones + total manys
length-in_row [] [] [] a b = refl
length-in_row [] (k ∷ ks) manys a b = absurd (omega (arith, a))
length-in_row [] [] (l ∷ ls) a b = absurd (omega (arith, b))
length-in_row (r ∷ rs) ones [] a b = elim (counts r rs) [
  | inl n ↦ absurd (omega (arith, b, n.arrays_are))
  | inr n ↦ elim ones as (λ ks. length ks ≡ single_count (r ∷ rs) → length (in_row (r ∷ rs) ks []) ≡ length ks + total []) [
    | [] ↦ λ a. absurd (omega (arith, a, n.singles_are))
    | (k ∷ ks) ↦ λ a.
        let h = length-in_row rs ks [] (omega (arith, a, n.singles_are)) (omega (arith, b, n.arrays_are)) in
        rw n.is (omega (arith, h))
  ] a
]
length-in_row (r ∷ rs) ones (l ∷ ls) a b = elim (counts r rs) [
  | inl n ↦
      let h = length-in_row rs ones ls (omega (arith, a, n.singles_are)) (omega (arith, b, n.arrays_are)) in
      rw n.is (omega (arith, h, length-append l (in_row rs ones ls)))
  | inr n ↦ elim ones as (λ ks. length ks ≡ single_count (r ∷ rs) → length (in_row (r ∷ rs) ks (l ∷ ls)) ≡ length ks + total (l ∷ ls)) [
    | [] ↦ λ a. absurd (omega (arith, a, n.singles_are))
    | (k ∷ ks) ↦ λ a.
        let h = length-in_row rs ks (l ∷ ls) (omega (arith, a, n.singles_are)) (omega (arith, b, n.arrays_are)) in
        rw n.is (omega (arith, h))
  ] a
]

-- all that entries name, and nothing else
pub length-arranged : (kind : Kind) (chans : List Chan) (es : List Slot) → length (singles es) ≡ single_count (row_of kind) → length (lists es) ≡ array_count (row_of kind)
    → length (arranged kind chans es) ≡ length (flattened es)
length-arranged kind chans es a b = length_order (rows (kind_name kind)).entries chans (in_row (row_of kind) (singles es) (lists es)) ∙ length-in_row (row_of kind) (singles es) (lists es) a b ∙ sym (length-flattened es)

-- The order of a row, one port after another.

pub first-Some : (ls : List (List ℕ)) (m : ℕ) (l : List ℕ) → slice_get ls m ≡ Some l → first_list (drop m ls) ≡ l
first-Some [] m l e = cc
first-Some (x ∷ xs) zero l e = cc
first-Some (x ∷ xs) (suc m) l e = first-Some xs m l e

pub first-None : (ls : List (List ℕ)) (m : ℕ) → slice_get ls m ≡ None → first_list (drop m ls) ≡ []
first-None [] zero e = refl
first-None [] (suc m) e = refl
first-None (x ∷ xs) zero e = cc
first-None (x ∷ xs) (suc m) e = first-None xs m e

pub one-Some : (ks : List ℕ) (m k : ℕ) → slice_get ks m ≡ Some k → take 1 (drop m ks) ≡ k ∷ []
one-Some [] m k e = cc
one-Some (x ∷ xs) zero k e = let h : x ≡ k = cc in ap (λ y. y ∷ []) h
one-Some (x ∷ xs) (suc m) k e = one-Some xs m k e

pub one-None : (ks : List ℕ) (m : ℕ) → slice_get ks m ≡ None → take 1 (drop m ks) ≡ []
one-None [] zero e = refl
one-None [] (suc m) e = refl
one-None (x ∷ xs) zero e = cc
one-None (x ∷ xs) (suc m) e = one-None xs m e

pub row_array : (rows : List code.PortRow) (i : ℕ) (none : code.PortRow) (ones manys : ℕ) (ks : List ℕ) (ls : List (List ℕ)) (chans more new whole : List ℕ)
    → (get_or rows i none).array ≡ true → i < length rows → new ≡ chans ++ more → first_list (drop manys ls) ≡ more
    → chans ++ in_row (map seen (drop i rows)) (drop ones ks) (drop manys ls) ≡ whole
    → new ++ in_row (map seen (drop (i + 1) rows)) (drop ones ks) (drop (manys + 1) ls) ≡ whole
row_array rows i none ones manys ks ls chans more new whole array lt new_is first so_far =
    let rest = in_row (map seen (drop (i + 1) rows)) (drop ones ks) (drop (manys + 1) ls) in
    let here : in_row (map seen (drop i rows)) (drop ones ks) (drop manys ls) ≡ more ++ rest = rw (drop_more rows i none lt, array, first, drop-drop 1 manys ls) refl in
    ap (λ xs. xs ++ rest) new_is ∙ (append_assoc chans more rest ∙ (ap (λ xs. chans ++ xs) (sym here) ∙ so_far))

pub row_single : (rows : List code.PortRow) (i : ℕ) (none : code.PortRow) (ones manys : ℕ) (ks : List ℕ) (ls : List (List ℕ)) (chans more new whole : List ℕ)
    → (get_or rows i none).array ≡ false → i < length rows → new ≡ chans ++ more → take 1 (drop ones ks) ≡ more
    → chans ++ in_row (map seen (drop i rows)) (drop ones ks) (drop manys ls) ≡ whole
    → new ++ in_row (map seen (drop (i + 1) rows)) (drop (ones + 1) ks) (drop manys ls) ≡ whole
row_single rows i none ones manys ks ls chans more new whole single lt new_is first so_far =
    let rest = in_row (map seen (drop (i + 1) rows)) (drop (ones + 1) ks) (drop manys ls) in
    let here : in_row (map seen (drop i rows)) (drop ones ks) (drop manys ls) ≡ more ++ rest = rw (drop_more rows i none lt, single, first, drop-drop 1 ones ks) refl in
    ap (λ xs. xs ++ rest) new_is ∙ (append_assoc chans more rest ∙ (ap (λ xs. chans ++ xs) (sym here) ∙ so_far))

-- Lists that agree.

pub agree_at : {X Y : Type 0} (f : X → Y) (xs ys : List X) (i : ℕ) (none : X) → map f xs ≡ map f ys → f (get_or xs i none) ≡ f (get_or ys i none)
agree_at f xs ys i none same = sym (read-map f xs i none) ∙ (ap (λ zs. get_or zs i (f none)) same ∙ read-map f ys i none)

pub no_size : (ls : List (List ℕ)) (i : ℕ) → slice_get ls i ≡ None → get_or (map length ls) i 0 ≡ 0
no_size [] i e = refl
no_size (l ∷ ls) zero e = cc
no_size (l ∷ ls) (suc i) e = no_size ls i e

-- what holds of all that each entry names holds of all that they name
pub all_named : (P : ℕ → Type 0) (es : List Slot) → All (λ e. All P (named_in e)) es → All P (flattened es)
all_named P [] h = All-nil P
all_named P (e ∷ es) h =
    All-append P (named_in e) (flattened es) (All-head (λ (x : Slot). All P (named_in x)) e es h) (all_named P es (All-tail (λ (x : Slot). All P (named_in x)) e es h))

both : (P : ℕ → Type 0) (xs ys : List ℕ) → All P (xs ++ ys) → All P xs × All P ys
both P [] ys h = (All-nil P, h)
both P (x ∷ xs) ys h =
    let rest = both P xs ys (All-tail P x (xs ++ ys) h) in
    (All-cons P x xs (All-head P x (xs ++ ys) h) rest.0, rest.1)

pub each_named : (P : ℕ → Type 0) (es : List Slot) → All P (flattened es) → All (λ e. All P (named_in e)) es
each_named P [] h = All-nil (λ (x : Slot). All P (named_in x))
each_named P (e ∷ es) h =
    let parts = both P (named_in e) (flattened es) h in
    All-cons (λ (x : Slot). All P (named_in x)) e es parts.0 (each_named P es parts.1)

pub tells_named : (P : ℕ → Type 0) (es : List Slot) (b : Bool) → (IsTrue b ↔ All (λ e. All P (named_in e)) es) → IsTrue b ↔ All P (flattened es)
tells_named P es b t = (λ h. all_named P es (t.0 h), λ h. t.1 (each_named P es h))
