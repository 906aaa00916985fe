-- What the reader keeps, after each kind of piece.
use Rattle.std.proofs.Common.{◌≡◌, ℕ, suc, ◌+◌, ◌-◌, ◌<◌, ◌≤◌, get_or, List, [], ◌∷◌, ◌++◌, length, take, drop, refl, sym, ap, ap₂, ◌∙◌, arith, append_assoc, length-append, slice_set}
use Rattle.std.proofs.lemmas.List.{append-nil, length-set}
use Rattle.std.proofs.Math.Seq.{set-append_seam, get_or-append_seam}
use Rattle.bz_sexpr.specs.Bytes.{open_paren, close_paren}
use Rattle.bz_sexpr.specs.Data.{Datum, leaf, items}
use Rattle.bz_sexpr.specs.Pieces.{spelling, spelt}
use Rattle.bz_sexpr.specs.Tokens.{lone}
use Rattle.bz_sexpr.specs.Views.{list_of, data_of}
use Rattle.bz_sexpr.specs.Nodes.{nodes_of, row, between, leaf_in}
use Rattle.bz_sexpr.specs.Reading.{Opened, places_of, laid, opening_node, innermost, ReadTo, IsTold, AreTold, AreOpened, SpellsLeaf}
use Rattle.bz_sexpr.specs.declared.datum.Span.{Span}
use Rattle.bz_sexpr.specs.declared.node.Node.{Node}
use Rattle.bz_sexpr.proofs.Laid.{row-append, list_of-data_of, list_piece}
use Rattle.bz_sexpr.proofs.Readings.{read_leaf, read_close}

-- ---- pieces of a text

take_some : {A : Type 0} (xs ys : List A) (n : ℕ) → take (length xs + n) (xs ++ ys) ≡ xs ++ take n ys
take_some [] ys n = ap (λ k. take k ys) (omega arith)
take_some (x ∷ xs) ys n =
    let more : length (x ∷ xs) + n ≡ suc (length xs + n) = omega arith in
    ap (λ k. take k (x ∷ (xs ++ ys))) more ∙ ap (λ zs. x ∷ zs) (take_some xs ys n)

drop_some : {A : Type 0} (xs ys : List A) → drop (length xs) (xs ++ ys) ≡ ys
drop_some [] ys = refl
drop_some (x ∷ xs) ys = drop_some xs ys

take_whole : {A : Type 0} (xs ys : List A) → take (length xs) (xs ++ ys) ≡ xs
take_whole [] ys = refl
take_whole (x ∷ xs) ys = ap (λ zs. x ∷ zs) (take_whole xs ys)

-- the bytes behind a front, so many of them
piece_of : (front back : List ℕ) (n : ℕ) → between (length front) (length front + n) (front ++ back) ≡ take n back
piece_of front back n = ap (drop (length front)) (take_some front back n) ∙ drop_some front (take n back)

pub piece_is : (whole front piece after : List ℕ) (from to : ℕ) → whole ≡ front ++ (piece ++ after) → length front ≡ from → to ≡ from + length piece → between from to whole ≡ piece
piece_is whole front piece after from to cut at end =
    let to_is : to ≡ length front + length piece = omega (arith, at, end) in
    rw (cut, ← at, to_is) (piece_of front (piece ++ after) (length piece) ∙ take_whole piece after)

piece_begins : (whole front after : List ℕ) (b from n : ℕ) → whole ≡ front ++ b ∷ after → length front ≡ from → between from (from + suc n) whole ≡ b ∷ take n after
piece_begins whole front after b from n cut at = rw (cut, ← at) (piece_of front (b ∷ after) (suc n))

-- ---- what is told

pub told_push : (whole : List ℕ) (ds : List Datum) (d : Datum) → AreTold whole (data_of ds) → IsTold whole d → AreTold whole (data_of (ds ++ d ∷ []))
told_push whole [] d told is = (is, tt)
told_push whole (e ∷ ds) d told is = (told.0, told_push whole ds d told.1 is)

pub opened_less : (whole : List ℕ) (n m : ℕ) (os : List Opened) → AreOpened whole n os → m ≤ n → AreOpened whole m os
opened_less whole n m [] h le = tt
opened_less whole n m (o ∷ os) (place, told, others) le =
    ((place.0, place.1, place.2, place.3, omega (arith, place.4, le)), told, opened_less whole n m os others le)

pub laid_more : (os : List Opened) (ds es : List Datum) → laid os (ds ++ es) ≡ laid os ds ++ row es
laid_more [] ds es = row-append ds es
laid_more (o ∷ os) ds es =
    let own : Node = opening_node o.from (innermost os) (length o.before) in
    ap (λ ns. laid os o.before ++ own ∷ ns) (row-append ds es) ∙ sym (append_assoc (laid os o.before) (own ∷ row ds) (row es))

-- each datum has a node of its own
length-row : (ds : List Datum) → length ds ≤ length (row ds)
length-row [] = omega arith
length-row (d ∷ ds) = omega (arith, length-append (nodes_of d) (row ds), own d, length-row ds)
  where
    own : (d : Datum) → 1 ≤ length (nodes_of d)
    own (leaf l span) = omega arith
    own (items es span) = omega arith

pub length-laid : (os : List Opened) (ds : List Datum) → length ds ≤ length (laid os ds)
length-laid [] ds = length-row ds
length-laid (o ∷ os) ds = omega (arith, length-append (laid os o.before) (opening_node o.from (innermost os) (length o.before) ∷ row ds), length-row ds)

-- there are no more nodes than bytes that are read
pub few_pushed : (old new : List Node) (n : Node) (at to : ℕ) → new ≡ old ++ n ∷ [] → length old ≤ at → at < to → length new ≤ to
few_pushed old new n at to is few more = omega (arith, ap length is, length-append old (n ∷ []), few, more)

pub few_written : (old new : List Node) (k at : ℕ) (n : Node) → new ≡ slice_set old k n → length old ≤ at → length new ≤ at + 1
few_written old new k at n is few = omega (arith, ap length is, length-set old k n, few)

-- ---- a leaf

pub record AddsLeaf (whole rest : List ℕ) (lists : List Opened) (ds : List Datum) (from to : ℕ) : Type 0 where
  pub d : Datum
  pub read : ReadTo whole rest lists (ds ++ d ∷ [])
  pub told : AreTold whole (data_of (ds ++ d ∷ []))
  pub nodes : laid lists (ds ++ d ∷ []) ≡ laid lists ds ++ record { from = from; to = to; size = 0; count = 0 } ∷ []

pub adds_leaf : (whole front rest : List ℕ) (lists : List Opened) (ds : List Datum) (from to : ℕ) → ReadTo whole front lists ds → AreTold whole (data_of ds) → SpellsLeaf front rest → from + length front ≡ length whole → to + length rest ≡ length whole
    → AddsLeaf whole rest lists ds from to
adds_leaf whole front rest lists ds from to read told leaf_is place end =
    let p = leaf_is.piece in
    let long : length front ≡ length (spelling p) + length rest = omega (arith, ap length leaf_is.cut, length-append (spelling p) rest) in
    let ends : to ≡ from + length (spelling p) = omega (arith, long, place, end) in
    let before = spelt read.begins_with.pieces in
    let cut : whole ≡ before ++ (spelling p ++ rest) = read.begins_with.cut ∙ ap (λ s. before ++ s) leaf_is.cut in
    let at : length before ≡ from = omega (arith, ap length read.begins_with.cut, length-append before front, place) in
    let span : Span = record { from = from; to = to } in
    let d : Datum = leaf leaf_is.value span in
    let here : IsTold whole d = ap leaf_in (piece_is whole before (spelling p) rest from to cut at ends) ∙ leaf_is.leaf_of_piece in
    record {
      d = d;
      read = read_leaf whole front rest lists ds p from leaf_is.value span read leaf_is.cut place leaf_is.is_piece (leaf_is.spells from ∙ ap (λ n. lone leaf_is.value (record { from = from; to = n }) ∷ []) (sym ends));
      told = told_push whole ds d told here;
      nodes = laid_more lists ds (d ∷ []);
    }

-- ---- a list that opens

pub opens_list : (whole rest after : List ℕ) (lists : List Opened) (ds : List Datum) (at : ℕ) → ReadTo whole rest lists ds → AreOpened whole (length rest) lists → AreTold whole (data_of ds) → rest ≡ open_paren ∷ after → at + length rest ≡ length whole
    → AreOpened whole (length after) (record { from = at; before = ds } ∷ lists)
opens_list whole rest after lists ds at read opened told first place =
    let before = spelt read.begins_with.pieces in (
      (before, after, read.begins_with.cut ∙ ap (λ s. before ++ s) first, omega (arith, ap length read.begins_with.cut, length-append before rest, place), omega arith),
      told,
      opened_less whole (length rest) (length after) lists opened (omega (arith, ap length first)),
    )

-- ---- a list that closes

pub record Closes (whole after : List ℕ) (lists : List Opened) (inner at : ℕ) (ds : List Datum) (nodes : List Node) : Type 0 where
  pub os : List Opened
  pub ds' : List Datum
  pub from : ℕ
  pub before : ℕ
  pub read : ReadTo whole after os ds'
  pub opened : AreOpened whole (length after) os
  pub told : AreTold whole (data_of ds')
  pub fewer : length lists ≡ length os + 1
  pub counted : length ds' ≡ before + 1
  pub placed : before ≤ inner
  pub size : inner + 1 + length (row ds) ≡ length nodes
  pub kept : (d : Node) → get_or nodes inner d ≡ opening_node from (innermost os) before
  pub closed : (n : Node) → n ≡ record { from = from; to = at + 1; size = length (row ds); count = length ds } → slice_set nodes inner n ≡ laid os ds'

pub closes_list : (whole rest after : List ℕ) (lists : List Opened) (ds : List Datum) (nodes : List Node) (inner at : ℕ) → ReadTo whole rest lists ds → AreOpened whole (length rest) lists → AreTold whole (data_of ds)
    → nodes ≡ laid lists ds → inner ≡ innermost lists → 0 < length lists → rest ≡ close_paren ∷ after → at + length rest ≡ length whole → Closes whole after lists inner at ds nodes
closes_list whole rest after [] ds nodes inner at read opened told nodes_are inner_is some first place = absurd (omega (arith, some))
closes_list whole rest after (o ∷ os) ds nodes inner at read (opens, before_told, others) told nodes_are inner_is some first place =
    let span : Span = record { from = o.from; to = at + 1 } in
    let d : Datum = items (data_of ds) span in
    let n = at - o.from in
    let to_is : at + 1 ≡ o.from + suc n = omega (arith, ap length first, place, ap length opens.2, length-append opens.0 (open_paren ∷ opens.1), opens.3, opens.4) in
    let piece : between o.from (at + 1) whole ≡ open_paren ∷ take n opens.1 = ap (λ k. between o.from k whole) to_is ∙ piece_begins whole opens.0 opens.1 open_paren o.from n opens.2 opens.3 in
    let here : IsTold whole d = (ap leaf_in piece ∙ list_piece _ (take n opens.1) open_paren refl refl, told) in
    let outer = laid os o.before in
    let own : Node = opening_node o.from (innermost os) (length o.before) in
    record {
      os = os;
      ds' = o.before ++ d ∷ [];
      from = o.from;
      before = length o.before;
      read = read_close whole rest after os ds o at span read first place refl;
      opened = opened_less whole (length rest) (length after) os others (omega (arith, ap length first));
      told = told_push whole o.before d before_told here;
      fewer = omega arith;
      counted = omega (arith, length-append o.before (d ∷ []));
      placed = omega (arith, inner_is, length-laid os o.before);
      size = omega (arith, inner_is, ap length nodes_are, length-append outer (own ∷ row ds));
      kept = λ m. ap₂ (λ ns k. get_or ns k m) nodes_are inner_is ∙ get_or-append_seam outer own (row ds) m;
      closed = λ m is.
          ap₂ (λ ns k. slice_set ns k m) nodes_are inner_is ∙ set-append_seam outer own (row ds) m
          ∙ ap (λ k. outer ++ k ∷ row ds) (is ∙ ap (node_from o.from (at + 1) (length (row ds))) (sym (ap length (list_of-data_of ds))))
          ∙ ap (λ ns. outer ++ node_from o.from (at + 1) (length (row ds)) (length (list_of (data_of ds))) ∷ ns) (sym (append-nil (row ds)))
          ∙ sym (laid_more os o.before (d ∷ []));
    }
  where
    node_from : ℕ → ℕ → ℕ → ℕ → Node
    node_from from to size count = record { from = from; to = to; size = size; count = count }

-- no list is open
pub none_open : (lists : List Opened) → length lists ≡ 0 → lists ≡ []
none_open [] e = refl
none_open (o ∷ os) e = absurd (omega (arith, e))

pub record Innermost (lists : List Opened) (ds : List Datum) (nodes : List Node) (inner : ℕ) : Type 0 where
  pub from : ℕ
  pub others : List ℕ
  pub places : places_of lists ≡ from ∷ others
  pub within : inner < length nodes
  pub kept : (d : Node) → (get_or nodes inner d).from ≡ from

pub innermost_open : (lists : List Opened) (ds : List Datum) (nodes : List Node) (inner : ℕ) → nodes ≡ laid lists ds → inner ≡ innermost lists → 0 < length lists → Innermost lists ds nodes inner
innermost_open [] ds nodes inner nodes_are inner_is some = absurd (omega (arith, some))
innermost_open (o ∷ os) ds nodes inner nodes_are inner_is some =
    let outer = laid os o.before in
    let own : Node = opening_node o.from (innermost os) (length o.before) in
    record {
      from = o.from;
      others = places_of os;
      places = refl;
      within = omega (arith, inner_is, ap length nodes_are, length-append outer (own ∷ row ds));
      kept = λ m. ap (λ n. n.from) (ap₂ (λ ns k. get_or ns k m) nodes_are inner_is ∙ get_or-append_seam outer own (row ds) m);
    }

pub closed_node : (from to size count from' to' size' count' : ℕ) → from ≡ from' → to ≡ to' → size ≡ size' → count ≡ count'
    → (let n : Node = record { from = from; to = to; size = size; count = count } in n) ≡ record { from = from'; to = to'; size = size'; count = count' }
closed_node from to size count from' to' size' count' e f g h = rw (e, f, g, h) refl
