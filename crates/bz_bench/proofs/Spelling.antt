-- What words of a port's line can mean, by their first bytes and by their star.
use Rattle.std.proofs.Common.{◌≡◌, ◌≢◌, ◌⊎◌, ℕ, zero, suc, ◌<◌, ◌≤◌, List, [], ◌∷◌, ◌++◌, length, get_or, append-nil, inl, inr, refl, sym, ap, ap₂, subst, ◌∙◌, arith}
use Rattle.std.specs.Prelude.{Option, Some, None, IfNone}
use Rattle.std.specs.Str.Parse.{digits_value}
use Rattle.std.proofs.lemmas.Str.Parse.{digit_at}
use Rattle.bz_bench.specs.Items.{AreTimes, IsItem, Meaning, Means, at_sign, begun, dot, file, greater, items, question, star}
use Rattle.bz_bench.specs.declared.items.Times.{Times}
use Rattle.bz_bench.specs.declared.items.Times.TheVariants.{Count, Always}
use Rattle.bz_bench.specs.declared.stream.Item.{Item}
use Rattle.bz_bench.specs.declared.stream.Item.TheVariants.{Handshake, Value, Any}
use Rattle.bz_model.specs.Limits.{max_width}
use Rattle.bz_words.specs.Words.{IsNumber}

-- what is said where there is nothing is so if it is so anyway
pub anyway : {A : Type 0} (o : Option A) (P : Type 0) → P → IfNone o P
anyway None P p = p
anyway (Some x) P p = tt

cons_same : {x y : ℕ} {xs ys : List ℕ} → x ∷ xs ≡ y ∷ ys → (x ≡ y) × (xs ≡ ys)
cons_same e = (cc, cc)

-- a text without a star
abbrev pub NoStar : List ℕ → Type 0
NoStar text = (i : ℕ) → i < length text → get_or text i 0 ≢ star

one_no_star : (b : ℕ) → b ≢ star → NoStar (b ∷ [])
one_no_star b ne zero h = λ is. ne is
one_no_star b ne (suc i) h = λ is. omega (arith, h)

number_no_star : (bits : ℕ) (text : List ℕ) (n : ℕ) → IsNumber bits text n → NoStar text
number_no_star bits text n is i h = λ e. let range = digit_at text i is.numeral.1 h in omega (arith, e, range.0)

pub item_no_star : (text : List ℕ) (item : Item) → IsItem text item → NoStar text
item_no_star text Handshake is = subst NoStar (sym is) (one_no_star dot (λ e. omega (arith, e)))
item_no_star text Any is = subst NoStar (sym is) (one_no_star question (λ e. omega (arith, e)))
item_no_star text (Value v) is = number_no_star max_width text v is

rest_no_star : (x : ℕ) (xs : List ℕ) → NoStar (x ∷ xs) → NoStar xs
rest_no_star x xs none = λ i h. none (suc i) (omega arith)

-- the first star of a text is at one place
first_star : (xs ys zs ws : List ℕ) → NoStar xs → NoStar zs → xs ++ star ∷ ys ≡ zs ++ star ∷ ws → (xs ≡ zs) × (ys ≡ ws)
first_star [] ys [] ws p q e = (refl, (cons_same e).1)
first_star [] ys (z ∷ zs) ws p q e = absurd (q 0 (omega arith) (sym (cons_same e).0))
first_star (x ∷ xs) ys [] ws p q e = absurd (p 0 (omega arith) (cons_same e).0)
first_star (x ∷ xs) ys (z ∷ zs) ws p q e =
    let both = cons_same e in
    let same = first_star xs ys zs ws (rest_no_star x xs p) (rest_no_star z zs q) both.1 in
    (ap₂ (λ a as'. a ∷ as') both.0 same.0, same.1)

-- a text with a star has one
has_star : (text xs ys : List ℕ) → text ≡ xs ++ star ∷ ys → NoStar text → ⊥
has_star [] [] ys e none = cc
has_star [] (x ∷ xs) ys e none = cc
has_star (t ∷ ts) [] ys e none = none 0 (omega arith) (cons_same e).0
has_star (t ∷ ts) (x ∷ xs) ys e none = has_star ts xs ys (cons_same e).1 (rest_no_star t ts none)

-- what follows an item: nothing, or a star with more
tail : (behind : List ℕ) (times : Times) → AreTimes behind times → (behind ≡ []) ⊎ ((digits : List ℕ) × (behind ≡ star ∷ digits))
tail behind (Count n) are = elim are [ inl none ↦ inl none.0 | inr some ↦ inr (some.0, some.1) ]
tail behind Always are = inr ([], are)

-- an item and what follows it, in a text without a star
whole : (text spelt behind : List ℕ) (times : Times) → text ≡ spelt ++ behind → NoStar text → AreTimes behind times → text ≡ spelt
whole text spelt behind times e none are = elim (tail behind times are) [
  | inl nothing ↦ e ∙ ap (λ b. spelt ++ b) nothing ∙ append-nil spelt
  | inr (digits, some) ↦ absurd (has_star text spelt digits (e ∙ ap (λ b. spelt ++ b) some) none)
]

-- and in one that is cut at its first star
parted : (text spelt behind front digits : List ℕ) (item : Item) (times : Times) → text ≡ front ++ star ∷ digits → NoStar front → text ≡ spelt ++ behind → IsItem spelt item → AreTimes behind times
    → (front ≡ spelt) × (star ∷ digits ≡ behind)
parted text spelt behind front digits item times cut none e is are = elim (tail behind times are) [
  | inl nothing ↦ absurd (has_star text front digits cut (subst NoStar (sym (e ∙ ap (λ b. spelt ++ b) nothing ∙ append-nil spelt)) (item_no_star spelt item is)))
  | inr (more, some) ↦
      let same = first_star front digits spelt more none (item_no_star spelt item is) (sym cut ∙ e ∙ ap (λ b. spelt ++ b) some) in
      (same.0, ap (λ ds. star ∷ ds) same.1 ∙ sym some)
]

module _ (text : List ℕ) (not_begun : text ≢ greater ∷ []) (no_file : (path : List ℕ) → text ≢ at_sign ∷ path) where
  pub no_item : NoStar text → ((item : Item) → IsItem text item → ⊥) → (meaning : Meaning) → Means text meaning → ⊥
  no_item none never (items item times) (spelt, behind, e, is, are) =
      let P : List ℕ → Type 0 = λ t. IsItem t item in
      never item (subst P (sym (whole text spelt behind times e none are)) is)
  no_item none never begun is = not_begun is
  no_item none never (file path) (is, some) = no_file path is

  pub no_item_before : (front digits : List ℕ) → text ≡ front ++ star ∷ digits → NoStar front → ((item : Item) → IsItem front item → ⊥) → (meaning : Meaning) → Means text meaning → ⊥
  no_item_before front digits cut none never (items item times) (spelt, behind, e, is, are) =
      let P : List ℕ → Type 0 = λ t. IsItem t item in
      never item (subst P (sym (parted text spelt behind front digits item times cut none e is are).0) is)
  no_item_before front digits cut none never begun is = not_begun is
  no_item_before front digits cut none never (file path) (is, some) = no_file path is

  pub no_times_behind : (front digits : List ℕ) → text ≡ front ++ star ∷ digits → NoStar front → ((times : Times) → AreTimes (star ∷ digits) times → ⊥) → (meaning : Meaning) → Means text meaning → ⊥
  no_times_behind front digits cut none never (items item times) (spelt, behind, e, is, are) =
      let P : List ℕ → Type 0 = λ t. AreTimes t times in
      never times (subst P (sym (parted text spelt behind front digits item times cut none e is are).1) are)
  no_times_behind front digits cut none never begun is = not_begun is
  no_times_behind front digits cut none never (file path) (is, some) = no_file path is

-- the first byte of an item is a dot, a question mark or a digit
first_of : (text : List ℕ) (item : Item) (b : ℕ) (rest : List ℕ) → IsItem text item → text ≡ b ∷ rest → b ≤ question
first_of text Handshake b rest is e = let same = (cons_same (sym is ∙ e)).0 in omega (arith, same)
first_of text Any b rest is e = let same = (cons_same (sym is ∙ e)).0 in omega (arith, same)
first_of text (Value v) b rest is e =
    let range = digit_at text 0 is.numeral.1 is.numeral.0 in
    let same : get_or text 0 0 ≡ b = ap (λ t. get_or t 0 0) e in
    omega (arith, range.1, same)

pub items_are_not_begun : (text spelt behind : List ℕ) (item : Item) → text ≡ spelt ++ behind → IsItem spelt item → text ≡ greater ∷ [] → ⊥
items_are_not_begun text [] behind Handshake e is was = cc
items_are_not_begun text [] behind Any e is was = cc
items_are_not_begun text [] behind (Value v) e is was = let some = is.numeral.0 in omega (arith, some)
items_are_not_begun text (s ∷ ss) behind Handshake e is was = let b = (cons_same is).0 in let g = (cons_same (sym e ∙ was)).0 in omega (arith, b, g)
items_are_not_begun text (s ∷ ss) behind Any e is was = let b = (cons_same is).0 in let g = (cons_same (sym e ∙ was)).0 in omega (arith, b, g)
items_are_not_begun text (s ∷ ss) behind (Value v) e is was =
    let range = digit_at (s ∷ ss) 0 is.numeral.1 is.numeral.0 in let g = (cons_same (sym e ∙ was)).0 in omega (arith, range.1, g)

pub items_are_no_file : (text spelt behind path : List ℕ) (item : Item) → text ≡ spelt ++ behind → IsItem spelt item → text ≡ at_sign ∷ path → ⊥
items_are_no_file text [] behind path Handshake e is was = cc
items_are_no_file text [] behind path Any e is was = cc
items_are_no_file text [] behind path (Value v) e is was = let some = is.numeral.0 in omega (arith, some)
items_are_no_file text (s ∷ ss) behind path item e is was =
    let low = first_of (s ∷ ss) item s ss is refl in let g = (cons_same (sym e ∙ was)).0 in omega (arith, low, g)

no_digits : (text : List ℕ) (b v : ℕ) → text ≡ b ∷ [] → (b < 48) ⊎ (57 < b) → IsNumber max_width text v → ⊥
no_digits text b v e out is =
    let range = digit_at text 0 is.numeral.1 is.numeral.0 in
    let same : get_or text 0 0 ≡ b = ap (λ t. get_or t 0 0) e in
    elim out [ inl low ↦ omega (arith, range.0, same, low) | inr high ↦ omega (arith, range.1, same, high) ]

item_sole : (text : List ℕ) (one other : Item) → IsItem text one → IsItem text other → one ≡ other
item_sole text Handshake Handshake p q = refl
item_sole text Handshake Any p q = let e = (cons_same (sym p ∙ q)).0 in absurd (omega (arith, e))
item_sole text Handshake (Value v) p q = absurd (no_digits text dot v p (inl (omega arith)) q)
item_sole text Any Handshake p q = let e = (cons_same (sym p ∙ q)).0 in absurd (omega (arith, e))
item_sole text Any Any p q = refl
item_sole text Any (Value v) p q = absurd (no_digits text question v p (inr (omega arith)) q)
item_sole text (Value v) Handshake p q = absurd (no_digits text dot v q (inl (omega arith)) p)
item_sole text (Value v) Any p q = absurd (no_digits text question v q (inr (omega arith)) p)
item_sole text (Value v) (Value w) p q = ap Value (p.value ∙ sym q.value)

some_digits : (digits : List ℕ) (n : ℕ) → star ∷ digits ≡ star ∷ [] → IsNumber 32 digits n → ⊥
some_digits digits n e is = let some = is.numeral.0 in let none = ap length (cons_same e).1 in omega (arith, some, none)

count_sole : (text : List ℕ) (n m : ℕ) → AreTimes text (Count n) → AreTimes text (Count m) → n ≡ m
count_sole text n m p q = elim p [
  | inl (none, one) ↦ elim q [ inl (nothing, other) ↦ one ∙ sym other | inr (digits, some, is) ↦ let e = sym none ∙ some in cc ]
  | inr (digits, some, is) ↦ elim q [
    | inl (none, one) ↦ let e = sym none ∙ some in cc
    | inr (others, more, are) ↦ is.value ∙ ap (λ ds. digits_value 10 ds) (cons_same (sym some ∙ more)).1 ∙ sym are.value
  ]
]

not_always : (text : List ℕ) (n : ℕ) → AreTimes text (Count n) → text ≡ star ∷ [] → ⊥
not_always text n p q = elim p [
  | inl (none, one) ↦ let e = sym none ∙ q in cc
  | inr (digits, some, is) ↦ some_digits digits n (sym some ∙ q) is
]

times_sole : (text : List ℕ) (one other : Times) → AreTimes text one → AreTimes text other → one ≡ other
times_sole text (Count n) (Count m) p q = ap Count (count_sole text n m p q)
times_sole text (Count n) Always p q = absurd (not_always text n p q)
times_sole text Always (Count m) p q = absurd (not_always text m q p)
times_sole text Always Always p q = refl

items_sole : (text spelt behind spelt' behind' : List ℕ) (item other : Item) (times often : Times) → text ≡ spelt ++ behind → IsItem spelt item → AreTimes behind times
    → text ≡ spelt' ++ behind' → IsItem spelt' other → AreTimes behind' often → (spelt ≡ spelt') × (behind ≡ behind')
items_sole text spelt behind spelt' behind' item other times often e is are e' is' are' = elim (tail behind times are) [
  | inl nothing ↦
      let plain = e ∙ ap (λ b. spelt ++ b) nothing ∙ append-nil spelt in
      let none = subst NoStar (sym plain) (item_no_star spelt item is) in
      elim (tail behind' often are') [
        | inl nothing' ↦ (sym plain ∙ e' ∙ ap (λ b. spelt' ++ b) nothing' ∙ append-nil spelt', nothing ∙ sym nothing')
        | inr (digits, some) ↦ absurd (has_star text spelt' digits (e' ∙ ap (λ b. spelt' ++ b) some) none)
      ]
  | inr (digits, some) ↦
      let same = parted text spelt' behind' spelt digits other often (e ∙ ap (λ b. spelt ++ b) some) (item_no_star spelt item is) e' is' are' in
      (same.0, some ∙ same.1)
]

-- a word has one meaning at most
pub meaning_sole : (text : List ℕ) (one other : Meaning) → Means text one → Means text other → one ≡ other
meaning_sole text (items item times) (items other often) (spelt, behind, e, is, are) (spelt', behind', e', is', are') =
    let same = items_sole text spelt behind spelt' behind' item other times often e is are e' is' are' in
    let P : List ℕ → Type 0 = λ t. IsItem t other in
    let Q : List ℕ → Type 0 = λ t. AreTimes t often in
    ap₂ items (item_sole spelt item other is (subst P (sym same.0) is')) (times_sole behind times often are (subst Q (sym same.1) are'))
meaning_sole text (items item times) begun (spelt, behind, e, is, are) was = absurd (items_are_not_begun text spelt behind item e is was)
meaning_sole text (items item times) (file path) (spelt, behind, e, is, are) (was, some) = absurd (items_are_no_file text spelt behind path item e is was)
meaning_sole text begun (items item times) was (spelt, behind, e, is, are) = absurd (items_are_not_begun text spelt behind item e is was)
meaning_sole text begun begun p q = refl
meaning_sole text begun (file path) p (q, some) = let e = (cons_same (sym p ∙ q)).0 in absurd (omega (arith, e))
meaning_sole text (file path) (items item times) (was, some) (spelt, behind, e, is, are) = absurd (items_are_no_file text spelt behind path item e is was)
meaning_sole text (file path) begun (q, some) p = let e = (cons_same (sym p ∙ q)).0 in absurd (omega (arith, e))
meaning_sole text (file path) (file other) (p, some) (q, more) = ap file (cons_same (sym p ∙ q)).1
