-- The pieces of a text, and the spans that they are, one after the other.
use Rattle.std.proofs.Common.{◌≡◌, ◌≢◌, ℕ, zero, suc, ◌+◌, ◌-◌, ◌<◌, true, false, List, [], ◌∷◌, ◌++◌, length, take, drop, get_or, Option, Some, None, refl, ap, sym, ◌∙◌, arith, append_assoc}
use Rattle.std.specs.Prelude.{◌==◌, if◌then◌else◌}
use Rattle.std.proofs.lemmas.Bool.{eq-eqb, ne_eqb}
use Rattle.std.proofs.lemmas.List.{append-nil, length-drop}
use Rattle.std.proofs.Math.Seq.{take-length}
use Rattle.bz_model.specs.declared.spans.Span.{Span}
use Rattle.bz_kind_rows.specs.Texts.{with_first, pieces, later, dot, alone, both, span_by, span_of, spans_from, set_spans, sets_from}

-- how much is left to read
abbrev pub size_left : Option (List ℕ) → ℕ
size_left None = 0
size_left (Some rest) = suc (length rest)

-- no separator stands there
pub split-none : (separator : ℕ) (text : List ℕ) → ((k : ℕ) → k < length text → get_or text k 0 ≢ separator) → pieces separator text ≡ text ∷ []
split-none separator [] none = refl
split-none separator (b ∷ bs) none =
    let here : b == separator ≡ false = ne_eqb b separator (none 0 (omega arith)) in
    let rest = split-none separator bs (λ k lt. none (suc k) (omega arith)) in
    rw (here, rest) refl

-- the first one stands at i
pub split-at : (separator : ℕ) (text : List ℕ) (i : ℕ) → i < length text → ((k : ℕ) → k < i → get_or text k 0 ≢ separator) → get_or text i 0 ≡ separator → pieces separator text ≡ take i text ∷ pieces separator (drop (suc i) text)
split-at separator [] i lt none is = absurd (omega arith)
split-at separator (b ∷ bs) zero lt none is =
    let here : b == separator ≡ true = eq-eqb b separator is in
    rw here refl
split-at separator (b ∷ bs) (suc i) lt none is =
    let here : b == separator ≡ false = ne_eqb b separator (none 0 (omega arith)) in
    let rest = split-at separator bs i (omega arith) (λ k l. none (suc k) (omega arith)) is in
    rw (here, rest) refl

-- one list and another, and then a third
pub both-both : (xs ys : List Span) (o : Option (List Span)) → both (Some xs) (both (Some ys) o) ≡ both (Some (xs ++ ys)) o
both-both xs ys None = refl
both-both xs ys (Some zs) = ap Some (sym (append_assoc xs ys zs))

pub both-none : (xs : List Span) (o : Option (List Span)) → both (Some xs) (both None o) ≡ None
both-none xs o = refl

-- all but the last are there
pub next-span : (set separator : ℕ) (xs : List Span) (text piece : List ℕ) (after : Option (List ℕ)) (span : Span) (whole : Option (List Span)) → pieces separator text ≡ piece ∷ later separator after → Some span ≡ span_of set piece → both (Some xs) (spans_from set (pieces separator text)) ≡ whole → both (Some (xs ++ span ∷ [])) (spans_from set (later separator after)) ≡ whole
next-span set separator xs text piece after span whole split is so_far =
    let r = spans_from set (later separator after) in
    let here : spans_from set (pieces separator text) ≡ both (Some (span ∷ [])) r = ap (spans_from set) split ∙ ap (λ o. both (alone o) r) (sym is) in
    sym (both-both xs (span ∷ []) r) ∙ ap (both (Some xs)) (sym here) ∙ so_far

pub no-span : (set separator : ℕ) (xs : List Span) (text piece : List ℕ) (after : Option (List ℕ)) (whole : Option (List Span)) → pieces separator text ≡ piece ∷ later separator after → None ≡ span_of set piece → both (Some xs) (spans_from set (pieces separator text)) ≡ whole → whole ≡ None
no-span set separator xs text piece after whole split is so_far =
    let r = spans_from set (later separator after) in
    let here : spans_from set (pieces separator text) ≡ None = ap (spans_from set) split ∙ ap (λ o. both (alone o) r) (sym is) in
    sym so_far ∙ ap (both (Some xs)) here

pub next-set : (set separator : ℕ) (xs ys : List Span) (text piece : List ℕ) (after : Option (List ℕ)) (whole : Option (List Span)) → pieces separator text ≡ piece ∷ later separator after → both (Some xs) (set_spans set piece) ≡ Some ys → both (Some xs) (sets_from set (pieces separator text)) ≡ whole → both (Some ys) (sets_from (suc set) (later separator after)) ≡ whole
next-set set separator xs ys text piece after whole split is so_far = cases (set_spans set piece) refl
  where
    r : Option (List Span)
    r = sets_from (suc set) (later separator after)

    cases : (o : Option (List Span)) → set_spans set piece ≡ o → both (Some ys) (sets_from (suc set) (later separator after)) ≡ whole
    cases None e = absurd (let f : both (Some xs) None ≡ Some ys = ap (both (Some xs)) (sym e) ∙ is in cc)
    cases (Some zs) e =
        let same : Some (xs ++ zs) ≡ Some ys = ap (both (Some xs)) (sym e) ∙ is in
        let here : sets_from set (pieces separator text) ≡ both (Some zs) (sets_from (suc set) (later separator after)) = ap (sets_from set) split ∙ ap (λ o. both o (sets_from (suc set) (later separator after))) e in
        ap (λ o. both o (sets_from (suc set) (later separator after))) (sym same) ∙ sym (both-both xs zs (sets_from (suc set) (later separator after))) ∙ ap (both (Some xs)) (sym here) ∙ so_far

pub no-set : (set separator : ℕ) (xs : List Span) (text piece : List ℕ) (after : Option (List ℕ)) (whole : Option (List Span)) → pieces separator text ≡ piece ∷ later separator after → both (Some xs) (set_spans set piece) ≡ None → both (Some xs) (sets_from set (pieces separator text)) ≡ whole → whole ≡ None
no-set set separator xs text piece after whole split is so_far = cases (set_spans set piece) refl
  where
    cases : (o : Option (List Span)) → set_spans set piece ≡ o → whole ≡ None
    cases None e =
        let here : sets_from set (pieces separator text) ≡ None = ap (sets_from set) split ∙ ap (λ o. both o (sets_from (suc set) (later separator after))) e in
        sym so_far ∙ ap (both (Some xs)) here
    cases (Some zs) e = absurd (let f : Some (xs ++ zs) ≡ None = ap (both (Some xs)) (sym e) ∙ is in cc)

pub all-read : (xs : List Span) → both (Some xs) (Some []) ≡ Some xs
all-read xs = ap Some (append-nil xs)

-- after the first i and one more
pub rest-is : (text : List ℕ) (i : ℕ) → take (length text - (i + 1)) (drop (i + 1) text) ≡ drop (suc i) text
rest-is text i =
    let one : i + 1 ≡ suc i = omega arith in
    rw (one, ← length-drop (suc i) text, take-length (drop (suc i) text)) refl

-- a text has a piece
first-piece : (separator : ℕ) (text : List ℕ) → (p : List ℕ) × (ps : List (List ℕ)) × (pieces separator text ≡ p ∷ ps)
first-piece separator [] = ([], [], refl)
first-piece separator (b ∷ bs) =
    let (p, ps, e) = first-piece separator bs in
    elim (b == separator) as (λ v. (p : List ℕ) × (ps : List (List ℕ)) × ((if v then [] ∷ pieces separator bs else with_first b (pieces separator bs)) ≡ p ∷ ps)) [
      | true ↦ ([], pieces separator bs, refl)
      | false ↦ (b ∷ p, ps, ap (with_first b) e)
    ]

too-many : (set : ℕ) (a b c p : List ℕ) (ps : List (List ℕ)) → span_by set (a ∷ b ∷ c ∷ p ∷ ps) ≡ None
too-many set a [] c p ps = refl
too-many set a (x ∷ b) c p ps = refl

-- four pieces or more are no span
pub no-four : (set : ℕ) (text a b c r q : List ℕ) (o : Option (List ℕ)) → pieces dot text ≡ a ∷ pieces dot r → pieces dot r ≡ b ∷ pieces dot q → pieces dot q ≡ c ∷ later dot o → o ≢ None → None ≡ span_of set text
no-four set text a b c r q None e f g some = absurd (some refl)
no-four set text a b c r q (Some rest) e f g some =
    let (p, ps, h) = first-piece dot rest in
    let whole : pieces dot text ≡ a ∷ b ∷ c ∷ p ∷ ps = e ∙ ap (λ ps. a ∷ ps) (f ∙ ap (λ ps. b ∷ ps) (g ∙ ap (λ ps. c ∷ ps) h)) in
    sym (ap (span_by set) whole ∙ too-many set a b c p ps)
