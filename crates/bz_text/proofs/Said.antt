-- Forms that are said, and texts that grow.
use Rattle.std.proofs.Common.{◌≡◌, ◌≢◌, ℕ, zero, suc, ◌+◌, ◌<◌, ◌≤◌, ◌==◌, Bool, true, false, cond, not, Option, Some, None, ◌-◌, min, max, reverse, replicate, List, [], ◌∷◌, ◌++◌, length, take, get_or, refl, sym, ap, ◌∙◌, subst, append_assoc, arith}
use Rattle.std.specs.List.{AllPass, AllWithin, AllZip, HoldsAt, position_or_len, repeat}
use Rattle.std.specs.Option.{MatchOption, unwrap_or}
use Rattle.std.proofs.lemmas.Iterator.{index_from_first}
use Rattle.std.proofs.lemmas.Bool.{ne_eqb}
use Rattle.std.proofs.lemmas.List.{append-nil, length-reverse, take_more}
use Rattle.bz_text.specs.Growing.{Grows, GrowsBy}
use Rattle.bz_text.specs.Saying.{Says, blanks_to, marks, said, width}

-- two texts that were added, one after the other
pub grows_then : (a b c : Option (List ℕ)) (s t : List ℕ) → Grows a b s → Grows b c t → Grows a c (s ++ t)
grows_then a b None s t p q = tt
grows_then a None (Some zs) s t p q = absurd q
grows_then None (Some ys) (Some zs) s t p q = absurd p
grows_then (Some xs) (Some ys) (Some zs) s t p q = q ∙ ap (λ u. u ++ t) p ∙ append_assoc xs s t

pub grows_nothing : (a : Option (List ℕ)) → Grows a a []
grows_nothing None = tt
grows_nothing (Some xs) = sym (append-nil xs)

-- words without a mark
abbrev pub NoMark : List ℕ → Type 0
NoMark w = (i : ℕ) → i < length w → get_or w i 0 ≢ 37

first_no : (b : ℕ) (w : List ℕ) → NoMark (b ∷ w) → (b == 37) ≡ false
first_no b w bare = ne_eqb b 37 (bare 0 (omega arith))

rest_no : (b : ℕ) (w : List ℕ) → NoMark (b ∷ w) → NoMark w
rest_no b w bare = λ i l. bare (suc i) (omega (arith, l))

marks_before : (w form : List ℕ) → NoMark w → marks (w ++ form) ≡ marks form
marks_before [] form bare = refl
marks_before (b ∷ w) form bare = ap (λ k. cond k (suc (marks (w ++ form))) (marks (w ++ form))) (first_no b w bare) ∙ marks_before w form (rest_no b w bare)

no_marks : (w : List ℕ) → NoMark w → marks w ≡ 0
no_marks w bare = ap marks (sym (append-nil w)) ∙ marks_before w [] bare

said_before : (w form t : List ℕ) (texts : List (List ℕ)) → NoMark w → said (w ++ form) (t ∷ texts) ≡ w ++ said form (t ∷ texts)
said_before [] form t texts bare = refl
said_before (b ∷ w) form t texts bare =
    ap (λ k. cond k (t ++ said (w ++ form) texts) (b ∷ said (w ++ form) (t ∷ texts))) (first_no b w bare)
    ∙ ap (λ s. b ∷ s) (said_before w form t texts (rest_no b w bare))

said_bare : (form : List ℕ) → said form [] ≡ form
said_bare [] = refl
said_bare (b ∷ form) = refl

zip_push : {X Y : Type 0} (R : X → Y → Type 0) (xs : List X) (ys : List Y) (x : X) (y : Y) → AllZip R xs ys → R x y → AllZip R (xs ++ x ∷ []) (ys ++ y ∷ [])
zip_push R [] [] x y z r = (r, tt)
zip_push R [] (b ∷ ys) x y z r = absurd z
zip_push R (a ∷ xs) [] x y z r = absurd z
zip_push R (a ∷ xs) (b ∷ ys) x y z r = (z.0, zip_push R xs ys x y z.1 r)

take_whole : {X : Type 0} (xs : List X) (n : ℕ) → length xs ≤ n → take n xs ≡ xs
take_whole [] zero le = refl
take_whole [] (suc n) le = refl
take_whole (x ∷ xs) zero le = absurd (omega arith)
take_whole (x ∷ xs) (suc n) le = ap (λ ys. x ∷ ys) (take_whole xs n (omega arith))

-- What a form has said with so many of its pieces, and what is left of it.
abbrev pub Spoken : {X : Type 0} → (X → List ℕ → Type 0) → List ℕ → List X → ℕ → List ℕ → List ℕ → Type 0
Spoken adds form pieces i rest bytes = (texts : List (List ℕ)) × AllZip adds (take i pieces) texts × (marks form ≡ i + marks rest) × ((more : List (List ℕ)) → said form (texts ++ more) ≡ bytes ++ said rest more)

pub says_nothing : {X : Type 0} (adds : X → List ℕ → Type 0) (form : List ℕ) (pieces : List X) (a : Option (List ℕ)) → GrowsBy (Spoken adds form pieces 0 form) a a
says_nothing adds form pieces a = ([], ([], tt, omega arith, λ more. refl), grows_nothing a)

spoken_more : {X : Type 0} (adds : X → List ℕ → Type 0) (form : List ℕ) (pieces : List X) (i : ℕ) (x : X) (rest words behind bytes t : List ℕ) → i < length pieces → get_or pieces i x ≡ x
    → rest ≡ words ++ (37 ∷ behind) → NoMark words → adds x t → Spoken adds form pieces i rest bytes → Spoken adds form pieces (i + 1) behind (bytes ++ (words ++ t))
spoken_more adds form pieces i x rest words behind bytes t l at cut bare add (texts, zip, count, each) =
    let left : marks rest ≡ suc (marks behind) = ap marks cut ∙ marks_before words (37 ∷ behind) bare in
    let more : take (i + 1) pieces ≡ take i pieces ++ (x ∷ []) = take_more pieces i x l ∙ ap (λ y. take i pieces ++ (y ∷ [])) at in (
      texts ++ (t ∷ []),
      subst (λ xs. AllZip adds xs (texts ++ (t ∷ []))) (sym more) (zip_push adds (take i pieces) texts x t zip add),
      omega (arith, count, left),
      λ others.
          ap (said form) (append_assoc texts (t ∷ []) others) ∙ each (t ∷ others) ∙ ap (λ r. bytes ++ said r (t ∷ others)) cut
          ∙ ap (λ s. bytes ++ s) (said_before words (37 ∷ behind) t others bare ∙ sym (append_assoc words t (said behind others)))
          ∙ sym (append_assoc bytes (words ++ t) (said behind others)),
    )

-- one piece more, behind the words in front of its mark
pub says_more : {X : Type 0} (is_told : X → Bool) (adds : X → List ℕ → Type 0) (form : List ℕ) (pieces : List X) (i : ℕ) (x : X) (rest words behind : List ℕ) (a b c e : Option (List ℕ)) → i < length pieces
    → get_or pieces i x ≡ x → (rest ≡ words ++ (37 ∷ behind)) × NoMark words → AllPass is_told pieces → GrowsBy (Spoken adds form pieces i rest) a b → Grows b c words
    → (is_told x ≡ true → GrowsBy (adds x) c e) → GrowsBy (Spoken adds form pieces (i + 1) behind) a e
says_more is_told adds form pieces i x rest words behind a b c e l at (cut, bare) told (bytes, spoken, g) h put =
    let (t, add, k) = put (ap is_told (sym at) ∙ told i x l) in
    (bytes ++ (words ++ t), spoken_more adds form pieces i x rest words behind bytes t l at cut bare add spoken, grows_then a b e bytes (words ++ t) g (grows_then b c e words t h k))

says_rest : {X : Type 0} (adds : X → List ℕ → Type 0) (form : List ℕ) (pieces : List X) (i : ℕ) (rest : List ℕ) (a b c : Option (List ℕ))
    → take (marks form) pieces ≡ take i pieces → GrowsBy (Spoken adds form pieces i rest) a b → Grows b c rest → GrowsBy (Says adds form pieces) a c
unfolding Says
says_rest adds form pieces i rest a b c same (bytes, (texts, zip, count, each), g) h = (
  bytes ++ rest,
  (
    texts,
    subst (λ xs. AllZip adds xs texts) (sym same) zip,
    sym (ap (said form) (sym (append-nil texts)) ∙ each [] ∙ ap (λ s. bytes ++ s) (said_bare rest)),
  ),
  grows_then a b c bytes rest g h,
)

-- the rest of a form, where there is bare piece more
pub says_all : {X : Type 0} (adds : X → List ℕ → Type 0) (form : List ℕ) (pieces : List X) (i : ℕ) (rest : List ℕ) (a b c : Option (List ℕ))
    → length pieces ≤ i → GrowsBy (Spoken adds form pieces i rest) a b → Grows b c rest → GrowsBy (Says adds form pieces) a c
says_all adds form pieces i rest a b c le spoken =
    let count = spoken.1.2 in
    says_rest adds form pieces i rest a b c (take_whole pieces (marks form) (omega (arith, count)) ∙ sym (take_whole pieces i le)) spoken

-- or bare mark
pub says_plain : {X : Type 0} (adds : X → List ℕ → Type 0) (form : List ℕ) (pieces : List X) (i : ℕ) (rest : List ℕ) (a b c : Option (List ℕ))
    → NoMark rest → GrowsBy (Spoken adds form pieces i rest) a b → Grows b c rest → GrowsBy (Says adds form pieces) a c
says_plain adds form pieces i rest a b c bare spoken =
    let count = spoken.1.2 in
    says_rest adds form pieces i rest a b c (ap (λ n. take n pieces) (omega (arith, count, no_marks rest bare))) spoken

-- ---- blanks up to a column

first_in : (test : ℕ → Bool) (xs : List ℕ) (r : Option ℕ) → MatchOption r (AllWithin (λ y. false ≡ test y) xs 0 (length xs)) (λ i. (i < length xs) × HoldsAt (λ y. true ≡ test y) xs i × AllWithin (λ y. false ≡ test y) xs 0 i)
    → position_or_len test xs ≡ unwrap_or r (length xs)
first_in test =
    index_from_first (position_or_len test) (λ y. true ≡ test y) (λ y. false ≡ test y) refl (λ x xs e. ap (λ b. cond (not b) (1 + position_or_len test xs) 0) (sym e))
    (λ x xs e. ap (λ b. cond (not b) (1 + position_or_len test xs) 0) (sym e) ∙ omega arith)

-- how many bytes stand behind the last line feed
pub width_is : (bytes : List ℕ) (r : Option ℕ)
    → MatchOption r (AllWithin (λ y. false ≡ (y == 10)) (reverse bytes) 0 (length (reverse bytes))) (λ i. (i < length (reverse bytes)) × HoldsAt (λ y. true ≡ (y == 10)) (reverse bytes) i × AllWithin (λ y. false ≡ (y == 10)) (reverse bytes) 0 i)
    → unwrap_or r (length bytes) ≡ width bytes
width_is bytes r h = ap (unwrap_or r) (sym (length-reverse bytes)) ∙ sym (first_in (λ y. y == 10) (reverse bytes) r h)

front_of_run : (n m b : ℕ) → n ≤ m → take n (replicate m b) ≡ repeat n (b ∷ [])
front_of_run zero m b le = grind arith
front_of_run (suc n) zero b le = absurd (omega arith)
front_of_run (suc n) (suc m) b le = ap (λ xs. b ∷ xs) (front_of_run n m b (omega (arith, le)))

blanks : (n column : ℕ) (text : List ℕ) → n ≡ min 60 (max 2 (column - width text)) → take n (replicate 60 32) ≡ blanks_to column (Some text)
blanks n column text is = front_of_run n 60 32 (omega (arith, is)) ∙ ap (λ m. repeat m (32 ∷ [])) is

-- blanks behind what is known of a text, or behind one of which a part is lost
pub filled : (column n : ℕ) (short : Bool) (text : List ℕ) (old new : Option (List ℕ)) → cond short None (Some text) ≡ old
    → n ≡ min 60 (max 2 (column - width text)) → Grows old new (take n (replicate 60 32)) → Grows old new (blanks_to column old)
filled column n true text old None is count g = tt
filled column n true text old (Some zs) is count g = absurd (subst (λ o. Grows o (Some zs) (take n (replicate 60 32))) (sym is) g)
filled column n false text old new is count g =
    subst (λ o. Grows o new (blanks_to column o)) is (subst (Grows (Some text) new) (blanks n column text count) (subst (λ o. Grows o new (take n (replicate 60 32))) (sym is) g))
