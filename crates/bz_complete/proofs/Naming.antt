-- What a name means: the places at which it stands.
use Rattle.std.proofs.Common.{◌≡◌, inl, inr, ℕ, zero, suc, ◌+◌, ◌-◌, ◌<◌, ◌≤◌, Bool, true, false, Option, Some, None, List, [], ◌∷◌, ◌++◌, Vec, map, length, get_or, reverse, position, bytes_eq, refl, sym, ap, subst, ◌∙◌, arith}
use Rattle.std.specs.Prelude.{slice_get, Result, Ok, Err, IfOk}
use Rattle.std.specs.declared.alloc.Global.{Global}
use Rattle.std.specs.declared.alloc.AllocError.{AllocError}
use Rattle.std.specs.Char.{is_ascii_digit}
use Rattle.std.specs.List.{position_or_len}
use Rattle.std.specs.Str.Parse.{IsNumeral}
use Rattle.std.proofs.lemmas.Bool.{cases_lt, false≢true}
use Rattle.std.proofs.lemmas.Grind.{common_steps, reverse_onto}
use Rattle.std.proofs.lemmas.List.{get_or-reverse, map-append}
use Rattle.std.proofs.lemmas.List.Quantifiers.{position-Some}
use Rattle.std.proofs.lemmas.List.Sums.{fails_before_first}
use Rattle.std.proofs.lemmas.Option.{get_or_from_slice_get, none-some, slice_get-get_or, slice_get_within}
use Rattle.std.proofs.lemmas.Slice.Eq.{bytes_eq-Decides}
use Rattle.std.proofs.lemmas.Str.Parse.{digit_at}
use Rattle.bz_model.specs.Names.{numbered}
use Rattle.bz_source.specs.declared.survey.Survey.{Survey}
use Rattle.bz_source.specs.declared.source.Source.{Source}
use Rattle.bz_source.specs.Found.{Locates}
use Rattle.bz_source.specs.Net.{FindsNamed}
use Rattle.bz_cli_source.specs.Surveys.{IsRead}
use Rattle.bz_model.specs.Nets.{Wiring}
use Rattle.bz_complete.specs.Named.{AreNames, ChanTable, IsAlone, label, labels_from, table_of}

-- where none passes
missed : (p : List ℕ → Bool) (xs : List (List ℕ)) (k : ℕ) → None ≡ position p xs → k < length xs → p (get_or xs k []) ≡ false
missed p xs k e within =
    let past : length xs ≤ position_or_len p xs = grind (arith, common_steps) in
    fails_before_first p xs k [] (omega (arith, past, within))

differs : (word name : List ℕ) → name ≡ word → bytes_eq word name ≡ false → ⊥
differs word name same fails = false≢true (sym fails ∙ (bytes_eq-Decides word name).1 (sym same))

-- the name that stands at the first place at which it is found
place_named : (names : List (List ℕ)) (word : List ℕ) (n : ℕ) → Some n ≡ position (bytes_eq word) names → numbered names (suc n) ≡ Some word
place_named names word n e =
    let (within, is, before) = position-Some (bytes_eq word) names n [] (sym e) in
    slice_get-get_or names n [] within ∙ ap Some (sym ((bytes_eq-Decides word (get_or names n [])).0 is))

-- it stands nowhere else where it is found nowhere
pub unnamed : (names : List (List ℕ)) (word : List ℕ) → None ≡ position (bytes_eq word) names → (j : ℕ) → numbered names j ≡ Some word → ⊥
unnamed names word none zero is = none-some word is
unnamed names word none (suc n) is =
    differs word (get_or names n []) (get_or_from_slice_get names n word [] is) (missed (bytes_eq word) names n none (slice_get_within names n word is))

pub named_port : (names : List (List ℕ)) (word : List ℕ) (n : ℕ) → Some n ≡ position (bytes_eq word) names → numbered names (n + 1) ≡ Some word
named_port names word n e = let more : suc n ≡ n + 1 = omega arith in subst (λ k. numbered names k ≡ Some word) more (place_named names word n e)

-- where it is found first and last it alone is
only : (labels : List (List ℕ)) (word : List ℕ) (i : ℕ) → position (bytes_eq word) labels ≡ Some i → position (bytes_eq word) (reverse labels) ≡ Some (length labels - 1 - i) → i < length labels
    → (m : ℕ) → slice_get labels m ≡ Some word → m ≡ i
only labels word i first last within m is =
    let inside = slice_get_within labels m word is in
    let here = get_or_from_slice_get labels m word [] is in
    elim (cases_lt m i) [
      | inl before ↦ absurd (differs word (get_or labels m []) here ((position-Some (bytes_eq word) labels i [] first).2 m before))
      | inr from ↦
          elim (cases_lt i m) [
            | inl behind ↦
                let earlier = (position-Some (bytes_eq word) (reverse labels) (length labels - 1 - i) [] last).2 (length labels - 1 - m) (omega (arith, behind, inside)) in
                let mirrored = get_or-reverse labels (length labels - 1 - m) [] (omega (arith, inside)) in
                let back : length labels - 1 - (length labels - 1 - m) ≡ m = omega (arith, inside) in
                absurd (differs word (get_or (reverse labels) (length labels - 1 - m) []) (mirrored ∙ ap (λ k. get_or labels k []) back ∙ here) earlier)
            | inr to ↦ omega (arith, from, to)
          ]
    ]

the : (labels : List (List ℕ)) (word : List ℕ) (i : ℕ) → position (bytes_eq word) labels ≡ Some i → position (bytes_eq word) (reverse labels) ≡ Some (length labels - 1 - i) → i < length labels
    → (j : ℕ) → numbered labels j ≡ Some word → j ≡ i + 1
the labels word i first last within zero is = absurd (none-some word is)
the labels word i first last within (suc m) is = let same = only labels word i first last within m is in omega (arith, same)

pub alone : (labels : List (List ℕ)) (word : List ℕ) (i : ℕ) → position (bytes_eq word) labels ≡ Some i → position (bytes_eq word) (reverse labels) ≡ Some (length labels - 1 - i) → i < length labels → IsAlone labels word (i + 1)
alone labels word i first last within =
    (named_port labels word i (sym first), the labels word i first last within)

-- one channel more
labels_more : (s : Survey) (k n : ℕ) → labels_from s k (suc n) ≡ labels_from s k n ++ label s (k + n) ∷ []
labels_more s k zero = let same : k ≡ k + 0 = omega arith in ap (λ j. label s j ∷ []) same
labels_more s k (suc n) =
    let same : suc k + n ≡ k + suc n = omega arith in
    ap (λ ls. label s k ∷ ls) (labels_more s (suc k) n ∙ ap (λ j. labels_from s (suc k) n ++ label s j ∷ []) same)

pub labels_next : (s : Survey) (n : ℕ) → labels_from s 1 (n + 1) ≡ labels_from s 1 n ++ label s (n + 1) ∷ []
labels_next s n =
    let more : n + 1 ≡ suc n = omega arith in let at : 1 + n ≡ n + 1 = omega arith in
    ap (labels_from s 1) more ∙ labels_more s 1 n ∙ ap (λ j. labels_from s 1 n ++ label s j ∷ []) at

labels_count : (s : Survey) (k n : ℕ) → length (labels_from s k n) ≡ n
labels_count s k zero = refl
labels_count s k (suc n) = ap suc (labels_count s (suc k) n)

map_reverse : (vs : List (Vec ℕ Global)) → map (λ (v : Vec ℕ Global). v.items) (reverse vs) ≡ reverse (map (λ (v : Vec ℕ Global). v.items) vs)
map_reverse [] = refl
map_reverse (v ∷ vs) =
    ap (map (λ (v : Vec ℕ Global). v.items)) (reverse_onto vs v []) ∙ map-append (λ (v : Vec ℕ Global). v.items) (reverse vs) (v ∷ [])
    ∙ ap (λ ys. ys ++ v.items ∷ []) (map_reverse vs) ∙ sym (reverse_onto (map (λ (v : Vec ℕ Global). v.items) vs) v.items [])

-- the labels, and what they are from the last one to the first
pub turned : (s : Survey) (n : ℕ) (labels : List (List ℕ)) (back other : List (Vec ℕ Global)) → map (λ (v : Vec ℕ Global). v.items) back ≡ labels_from s 1 n → other ≡ reverse back → labels ≡ labels_from s 1 n
    → (map (λ (v : Vec ℕ Global). v.items) other ≡ reverse labels) × (n ≡ length labels)
turned s n labels back other is same all = (
  ap (map (λ (v : Vec ℕ Global). v.items)) same ∙ map_reverse back ∙ ap reverse (is ∙ sym all),
  sym (labels_count s 1 n) ∙ ap length (sym all),
)

-- each byte of a number is a digit
pub is_digit : (word : List ℕ) (i : ℕ) → IsNumeral 10 word → i < length word → is_ascii_digit (get_or word i 0) ≡ true
is_digit word i numeral within = let range = digit_at word i numeral.1 within in grind (arith, common_steps, range)

pub of_survey : (netlist : List ℕ) (part : Option (List ℕ)) (name : List ℕ) (w : Wiring) (source : Source) (s : Survey) (answer : Result ChanTable AllocError) → IsRead netlist part name w source.parts source.lines.items
    → s.parts ≡ source.parts → s.lines ≡ source.lines → Locates source.parts name s.places → FindsNamed source.parts name s.places → IfOk answer (λ names. names ≡ table_of w s) → IfOk answer (AreNames netlist part w)
of_survey netlist part name w source s (Ok names) read parts lines places named is = inr (
  name,
  s,
  record {
    source = rw (parts, lines) read;
    places = rw parts places;
    named = rw parts named;
  },
  is,
)
of_survey netlist part name w source s (Err e) read parts lines places named is = tt
