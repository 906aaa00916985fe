-- The nodes of data, and the data that nodes stand for.
use Rattle.std.proofs.Common.{◌≡◌, ◌≢◌, ℕ, suc, ◌≤◌, List, [], ◌∷◌, ◌++◌, length, take, drop, Option, Some, None, refl, sym, ap, ap₂, ◌∙◌, arith, append_assoc, length-append}
use Rattle.std.proofs.lemmas.List.{append-nil}
use Rattle.std.proofs.lemmas.Bool.{ne_eqb}
use Rattle.bz_sexpr.specs.Bytes.{open_paren, quote}
use Rattle.bz_sexpr.specs.Data.{Leaf, text, symbol, leaf_of, Datum, leaf, items, Data, none, more, span_of}
use Rattle.bz_sexpr.specs.Views.{list_of, data_of}
use Rattle.bz_sexpr.specs.Nodes.{nodes_of, nodes_in, row, between, unquoted, but_last, leaf_in, span_at, datum_at, before_others, forest}
use Rattle.bz_sexpr.specs.Reading.{IsTold, AreTold}
use Rattle.bz_sexpr.specs.declared.datum.Span.{Span}
use Rattle.bz_sexpr.specs.declared.node.Node.{Node}

pub data_of-list_of : (ds : Data) → data_of (list_of ds) ≡ ds
data_of-list_of none = refl
data_of-list_of (more d ds) = ap (more d) (data_of-list_of ds)

pub list_of-data_of : (ds : List Datum) → list_of (data_of ds) ≡ ds
list_of-data_of [] = refl
list_of-data_of (d ∷ ds) = ap (λ es. d ∷ es) (list_of-data_of ds)

pub row-append : (ds es : List Datum) → row (ds ++ es) ≡ row ds ++ row es
row-append [] es = refl
row-append (d ∷ ds) es = ap (λ ns. nodes_of d ++ ns) (row-append ds es) ∙ sym (append_assoc (nodes_of d) (row ds) (row es))

take_all : {A : Type 0} (xs ys : List A) → take (length xs) (xs ++ ys) ≡ xs
take_all [] ys = refl
take_all (x ∷ xs) ys = ap (λ zs. x ∷ zs) (take_all xs ys)

drop_all : {A : Type 0} (xs ys : List A) → drop (length xs) (xs ++ ys) ≡ ys
drop_all [] ys = refl
drop_all (x ∷ xs) ys = drop_all xs ys

-- ---- nodes of data that are told stand for these

mutual
  pub forest_of : (whole : List ℕ) (d : Datum) (rest : List Node) → IsTold whole d → forest whole (nodes_of d ++ rest) ≡ d ∷ forest whole rest
  forest_of whole (leaf l span) rest told = ap (λ o. before_others o (record { from = span.from; to = span.to; size = 0; count = 0 }) (forest whole rest)) told
  forest_of whole (items ds span) rest told =
      let n : Node = record { from = span.from; to = span.to; size = length (nodes_in ds); count = length (list_of ds) } in
      ap (λ o. before_others o n (forest whole (nodes_in ds ++ rest))) told.0
      ∙ ap (before_others None n) (forest_in whole ds rest told.1)
      ∙ ap₂ (λ es fs. items es span ∷ fs) (ap data_of (take_all (list_of ds) (forest whole rest)) ∙ data_of-list_of ds) (drop_all (list_of ds) (forest whole rest))

  pub forest_in : (whole : List ℕ) (ds : Data) (rest : List Node) → AreTold whole ds → forest whole (nodes_in ds ++ rest) ≡ list_of ds ++ forest whole rest
  forest_in whole none rest told = refl
  forest_in whole (more d ds) rest told =
      ap (forest whole) (append_assoc (nodes_of d) (nodes_in ds) rest) ∙ forest_of whole d (nodes_in ds ++ rest) told.0 ∙ ap (λ es. d ∷ es) (forest_in whole ds rest told.1)

pub forest_row : (whole : List ℕ) (ds : List Datum) → AreTold whole (data_of ds) → forest whole (row ds) ≡ ds
forest_row whole ds told = ap (forest whole) (sym (append-nil (row ds))) ∙ forest_in whole (data_of ds) [] told ∙ append-nil (list_of (data_of ds)) ∙ list_of-data_of ds

-- ---- and where they stand for these, these are told

leaf_back : (o : Option Leaf) (l : Leaf) (span : Span) (n : Node) (ds xs : List Datum) → before_others o n ds ≡ leaf l span ∷ xs → o ≡ Some l
leaf_back (Some m) l span n ds xs e = cc
leaf_back None l span n ds xs e = absurd cc

list_back : (o : Option Leaf) (es : Data) (span : Span) (n : Node) (ds xs : List Datum) → before_others o n ds ≡ items es span ∷ xs → (o ≡ None) × (data_of (take n.count ds) ≡ es)
list_back (Some m) es span n ds xs e = absurd cc
list_back None es span n ds xs e = (refl, cc)

first_back : (d e : Datum) (ds es : List Datum) → d ∷ ds ≡ e ∷ es → (d ≡ e) × (ds ≡ es)
first_back d e ds es h = (cc, cc)

some_first : (whole : List ℕ) (n : Node) (ns : List Node) → (d : Datum) × (ds : List Datum) × (forest whole (n ∷ ns) ≡ d ∷ ds)
some_first whole n ns = first (leaf_in (between n.from n.to whole))
  where
    first : (o : Option Leaf) → (d : Datum) × (ds : List Datum) × (before_others o n (forest whole ns) ≡ d ∷ ds)
    first (Some l) = (_, _, refl)
    first None = (_, _, refl)

-- the front of a list of data
front_first : (d : Datum) (ds : Data) (xs : List Datum) → data_of (take (length (list_of (more d ds))) xs) ≡ more d ds → (ys : List Datum) × (xs ≡ d ∷ ys) × (data_of (take (length (list_of ds)) ys) ≡ ds)
front_first d ds [] e = absurd cc
front_first d ds (x ∷ ys) e =
    let h : more x (data_of (take (length (list_of ds)) ys)) ≡ more d ds = e in
    let same : x ≡ d = cc in
    (ys, ap (λ z. z ∷ ys) same, cc)

mutual
  pub told_back : (whole : List ℕ) (d : Datum) (rest : List Node) (xs : List Datum) → forest whole (nodes_of d ++ rest) ≡ d ∷ xs → IsTold whole d
  told_back whole (leaf l span) rest xs e = leaf_back _ l span _ _ xs e
  told_back whole (items ds span) rest xs e =
      let back = list_back _ ds span _ _ xs e in
      (back.0, told_within whole ds rest (forest whole (nodes_in ds ++ rest)) refl back.1)

  told_within : (whole : List ℕ) (ds : Data) (rest : List Node) (xs : List Datum) → forest whole (nodes_in ds ++ rest) ≡ xs → data_of (take (length (list_of ds)) xs) ≡ ds → AreTold whole ds
  told_within whole none rest xs e h = tt
  told_within whole (more d ds) rest xs e h =
      let f = front_first d ds xs h in
      let all : forest whole (nodes_of d ++ (nodes_in ds ++ rest)) ≡ d ∷ f.0 = ap (forest whole) (sym (append_assoc (nodes_of d) (nodes_in ds) rest)) ∙ e ∙ f.1 in
      let first = told_back whole d (nodes_in ds ++ rest) f.0 all in
      let others = first_back d d (forest whole (nodes_in ds ++ rest)) f.0 (sym (forest_of whole d (nodes_in ds ++ rest) first) ∙ all) in
      (first, told_within whole ds rest f.0 others.1 f.2)

-- ---- the first of them

-- the first node, the nodes of the data in it, and those behind them
pub record First (whole : List ℕ) (n : Node) (ns : List Node) : Type 0 where
  pub fits : n.size ≤ length ns
  pub first : datum_at (leaf_in (between n.from n.to whole)) n (forest whole (take n.size ns)) ∷ forest whole (drop n.size ns) ≡ forest whole (n ∷ ns)
  pub inner : take n.size ns ≡ row (forest whole (take n.size ns))
  pub counted : n.count ≡ length (forest whole (take n.size ns))
  pub behind : drop n.size ns ≡ row (forest whole (drop n.size ns))
  pub longer : length (forest whole (n ∷ ns)) ≡ suc (length (forest whole (drop n.size ns)))

node_back : (n m : Node) (ns ms : List Node) → n ∷ ns ≡ m ∷ ms → (n ≡ m) × (ns ≡ ms)
node_back n m ns ms e = (cc, cc)

record Parted (whole : List ℕ) (n : Node) (inner behind : List Node) : Type 0 where
  first : datum_at (leaf_in (between n.from n.to whole)) n (forest whole inner) ∷ forest whole behind ≡ forest whole (n ∷ (inner ++ behind))
  within : inner ≡ row (forest whole inner)
  counted : n.count ≡ length (forest whole inner)
  after : behind ≡ row (forest whole behind)

-- nodes that part so
parts_so : (whole : List ℕ) (n : Node) (ns inner behind : List Node) → ns ≡ inner ++ behind → n.size ≡ length inner → Parted whole n inner behind → First whole n ns
parts_so whole n ns inner behind is size p =
    let front : take n.size ns ≡ inner = ap₂ take size is ∙ take_all inner behind in
    let back : drop n.size ns ≡ behind = ap₂ drop size is ∙ drop_all inner behind in
    let all : forest whole (n ∷ (inner ++ behind)) ≡ forest whole (n ∷ ns) = ap (λ ms. forest whole (n ∷ ms)) (sym is) in
    record {
      fits = omega (arith, size, ap length is, length-append inner behind);
      first = ap₂ (λ xs ys. datum_at (leaf_in (between n.from n.to whole)) n (forest whole xs) ∷ forest whole ys) front back ∙ p.first ∙ all;
      inner = front ∙ p.within ∙ ap (λ xs. row (forest whole xs)) (sym front);
      counted = p.counted ∙ ap (λ xs. length (forest whole xs)) (sym front);
      behind = back ∙ p.after ∙ ap (λ bs. row (forest whole bs)) (sym back);
      longer = ap length (sym all ∙ sym p.first) ∙ ap (λ bs. suc (length (forest whole bs))) (sym back);
    }

parted : (whole : List ℕ) (n : Node) (ns : List Node) (d : Datum) (ds : List Datum) → forest whole (n ∷ ns) ≡ d ∷ ds → n ∷ ns ≡ nodes_of d ++ row ds → First whole n ns
parted whole n ns (leaf l span) ds stand is =
    let same = node_back n _ ns (row ds) is in
    let told : leaf_in (between n.from n.to whole) ≡ Some l = leaf_back _ l span n _ ds stand in
    let others = first_back (leaf l (span_at n)) (leaf l span) (forest whole ns) ds (ap (λ o. before_others o n (forest whole ns)) (sym told) ∙ stand) in
    parts_so whole n ns [] ns refl (ap (λ m. m.size) same.0) (record {
      first = ap (λ o. datum_at o n [] ∷ forest whole ns) told ∙ ap (λ o. before_others o n (forest whole ns)) (sym told);
      within = refl;
      counted = ap (λ m. m.count) same.0;
      after = same.1 ∙ ap row (sym others.1);
    })
parted whole n ns (items es span) ds stand is =
    let same = node_back n _ ns (nodes_in es ++ row ds) is in
    let all : forest whole (nodes_of (items es span) ++ row ds) ≡ items es span ∷ ds = ap (forest whole) (sym is) ∙ stand in
    let told = told_back whole (items es span) (row ds) ds all in
    let inner : forest whole (nodes_in es) ≡ list_of es = ap (forest whole) (sym (append-nil (nodes_in es))) ∙ forest_in whole es [] told.1 ∙ append-nil (list_of es) in
    let others = first_back _ _ (forest whole (row ds)) ds (sym (forest_of whole (items es span) (row ds) told) ∙ all) in
    let list : leaf_in (between n.from n.to whole) ≡ None = (list_back _ es span n _ ds stand).0 in
    let here : items (data_of (forest whole (nodes_in es))) (span_at n) ≡ items es span =
    ap₂ items (ap data_of inner ∙ data_of-list_of es) (ap span_at same.0) in
    let whole_again : forest whole (n ∷ (nodes_in es ++ row ds)) ≡ items es span ∷ ds = ap (λ ms. forest whole (n ∷ ms)) (sym same.1) ∙ stand in
    parts_so whole n ns (nodes_in es) (row ds) same.1 (ap (λ m. m.size) same.0) (record {
      first = ap (λ o. datum_at o n (forest whole (nodes_in es)) ∷ forest whole (row ds)) list ∙ ap₂ (λ a b. a ∷ b) here others.1 ∙ sym whole_again;
      within = sym (ap nodes_in (ap data_of inner ∙ data_of-list_of es));
      counted = ap (λ m. m.count) same.0 ∙ ap length (sym inner);
      after = ap row (sym others.1);
    })

pub first_of : (whole : List ℕ) (ms : List Node) (n : Node) (ns : List Node) → ms ≡ row (forest whole ms) → ms ≡ n ∷ ns → First whole n ns
first_of whole ms n ns stand is =
    let f = some_first whole n ns in
    parted whole n ns f.0 f.1 f.2 (sym is ∙ stand ∙ ap row (ap (forest whole) is ∙ f.2))

-- ---- the shape of a node

pub leaf_shape : (o : Option Leaf) (l : Leaf) (n : Node) (inner : List Datum) → o ≡ Some l → leaf l (span_of (datum_at o n inner)) ≡ datum_at o n inner
leaf_shape o l n inner e = rw e refl

pub items_shape : (o : Option Leaf) (n : Node) (inner : List Datum) → o ≡ None → items (data_of inner) (span_of (datum_at o n inner)) ≡ datum_at o n inner
items_shape o n inner e = rw e refl

pub empty_piece : (piece : List ℕ) → piece ≡ [] → leaf_in piece ≡ Some (symbol piece)
unfolding leaf_in
empty_piece piece e = rw e refl

pub list_piece : (piece after : List ℕ) (b : ℕ) → piece ≡ b ∷ after → b ≡ open_paren → leaf_in piece ≡ None
unfolding leaf_in
list_piece piece after b e is = rw (e, is) refl

pub quoted_piece : (piece after raw : List ℕ) (b : ℕ) → piece ≡ b ∷ after → b ≡ quote → raw ≡ but_last after → leaf_in piece ≡ Some (text (unquoted raw))
unfolding leaf_in
quoted_piece piece after raw b e is r = rw (e, is, r) refl

pub run_piece : (piece after : List ℕ) (b : ℕ) → piece ≡ b ∷ after → b ≢ open_paren → b ≢ quote → leaf_in piece ≡ Some (leaf_of piece)
unfolding leaf_in
run_piece piece after b e o q = rw (e, ne_eqb b 40 o, ne_eqb b 34 q) refl
