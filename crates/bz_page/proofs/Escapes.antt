-- Escaped texts: how they are written, and how they read back.
use Rattle.std.proofs.Common.{◌≡◌, ◌≢◌, ℕ, suc, ◌+◌, ◌*◌, ◌/◌, ◌%◌, ◌<◌, ◌==◌, ◌&&◌, Bool, true, false, cond, Option, List, [], ◌∷◌, ◌++◌, length, slice_index, refl, sym, ap, ap₂, ◌∙◌, subst, append_assoc, length-append, arith}
use Rattle.std.specs.List.{AllByRecursion, AllPass, list_all}
use Rattle.std.specs.Io.KnownBytes.{Appends}
use Rattle.std.proofs.lemmas.Bool.{ne_eqb}
use Rattle.std.proofs.lemmas.Bool.Decides.{nat_tests}
use Rattle.std.proofs.lemmas.Grind.{flat_map-append}
use Rattle.std.proofs.lemmas.List.{append-nil}
use Rattle.std.proofs.lemmas.List.Sums.{list_all-from_AllPass}
use Rattle.bz_model.specs.Traces.{hex_digit}
use Rattle.bz_text.specs.Writing.{AppendsFront}
use Rattle.bz_text.proofs.Sent.{appends_then, stops_after, stops_before}
use Rattle.bz_page.specs.Escaping.{digit_value, escaped, escaped_byte, is_digit, is_kept, unescaped}

both : (x y : Bool) → (x && y) ≡ true → (x ≡ true) × (y ≡ true)
both true y e = (refl, e)
both false y e = absurd cc

kept_byte : (b : ℕ) → is_kept b ≡ true → escaped_byte b ≡ b ∷ []
unfolding escaped_byte
kept_byte b e = ap (λ k. cond k (b ∷ []) (37 ∷ hex_digit (b / 16) ∷ hex_digit (b % 16) ∷ [])) e

-- what stands for itself is not changed
kept_all : (t : List ℕ) → list_all is_kept t ≡ true → escaped t ≡ t
kept_all [] e = refl
kept_all (b ∷ t) e =
    let parts = both (is_kept b) (list_all is_kept t) e in
    ap (λ s. s ++ escaped t) (kept_byte b parts.0) ∙ ap (λ s. b ∷ s) (kept_all t parts.1)

escaped_cut : (text kept others : List ℕ) → kept ++ others ≡ text → AllPass is_kept kept → escaped text ≡ kept ++ escaped others
escaped_cut text kept others whole plain = ap escaped (sym whole) ∙ flat_map-append escaped_byte kept others ∙ ap (λ s. s ++ escaped others) (kept_all kept (list_all-from_AllPass is_kept kept plain))

-- a stretch that stopped within its front
pub stops_in_front : (a b : Option (List ℕ)) (text kept others : List ℕ) → kept ++ others ≡ text → AllPass is_kept kept → AppendsFront a b kept → AppendsFront a b (escaped text)
stops_in_front a b text kept others whole plain went = subst (AppendsFront a b) (sym (escaped_cut text kept others whole plain)) (stops_before a b kept (escaped others) went)

-- or at the byte behind it
pub stops_at_byte : (a b c : Option (List ℕ)) (text kept others rest : List ℕ) (byte : ℕ) → kept ++ others ≡ text → AllPass is_kept kept → others ≡ byte ∷ rest
    → Appends a b kept → AppendsFront b c (escaped_byte byte) → AppendsFront a c (escaped text)
stops_at_byte a b c text kept others rest byte whole plain next went stops =
    let cut : escaped text ≡ kept ++ (escaped_byte byte ++ escaped rest) = escaped_cut text kept others whole plain ∙ ap (λ s. kept ++ escaped s) next in
    subst (AppendsFront a c) (sym cut) (stops_after a b c kept _ went (stops_before b c (escaped_byte byte) (escaped rest) stops))

-- a stretch that went out, and what is left
abbrev pub Stretched : Option (List ℕ) → Option (List ℕ) → List ℕ → List ℕ → Type 0
Stretched a b text rest = (front : List ℕ) × (text ≡ front ++ rest) × (length rest < length text) × Appends a b (escaped front)

pub sent_all : (a b : Option (List ℕ)) (text kept others : List ℕ) → 0 < length text → kept ++ others ≡ text → AllPass is_kept kept → length others ≡ 0 → Appends a b kept → Stretched a b text others
sent_all a b text kept others some whole plain none went =
    (kept, sym whole, omega (arith, some, none), subst (Appends a b) (sym (kept_all kept (list_all-from_AllPass is_kept kept plain))) went)

pub sent_stretch : (a b c : Option (List ℕ)) (text kept others rest : List ℕ) (byte : ℕ) → kept ++ others ≡ text → AllPass is_kept kept → others ≡ byte ∷ rest
    → Appends a b kept → Appends b c (escaped_byte byte) → Stretched a c text rest
sent_stretch a b c text kept others rest byte whole plain next went then =
    let is : text ≡ kept ++ (byte ∷ rest) = sym whole ∙ ap (λ s. kept ++ s) next in
    let out : escaped (kept ++ byte ∷ []) ≡ kept ++ escaped_byte byte =
    flat_map-append escaped_byte kept (byte ∷ []) ∙ ap₂ (λ s u. s ++ u) (kept_all kept (list_all-from_AllPass is_kept kept plain)) (append-nil (escaped_byte byte)) in (
      kept ++ byte ∷ [],
      is ∙ sym (append_assoc kept (byte ∷ []) rest),
      omega (arith, ap length is, length-append kept (byte ∷ rest)),
      subst (Appends a c) (sym out) (appends_then a b c kept (escaped_byte byte) went then),
    )

-- what has gone out of a text, and what is left
abbrev pub Sends : Option (List ℕ) → Option (List ℕ) → List ℕ → List ℕ → Type 0
Sends a b text rest = (sent : List ℕ) × (text ≡ sent ++ rest) × Appends a b (escaped sent)

pub sends_more : (a b c : Option (List ℕ)) (text rest after : List ℕ) → Sends a b text rest → Stretched b c rest after → Sends a c text after
sends_more a b c text rest after (sent, is, went) (front, cut, less, then) = (
  sent ++ front,
  is ∙ ap (λ s. sent ++ s) cut ∙ sym (append_assoc sent front after),
  subst (Appends a c) (sym (flat_map-append escaped_byte sent front)) (appends_then a b c (escaped sent) (escaped front) went then),
)

pub sends_stop : (a b c : Option (List ℕ)) (text rest : List ℕ) → Sends a b text rest → AppendsFront b c (escaped rest) → AppendsFront a c (escaped text)
sends_stop a b c text rest (sent, is, went) stops =
    subst (AppendsFront a c) (sym (ap escaped is ∙ flat_map-append escaped_byte sent rest)) (stops_after a b c (escaped sent) (escaped rest) went stops)

pub sends_whole : (a b : Option (List ℕ)) (text rest : List ℕ) → rest ≡ [] → Sends a b text rest → Appends a b (escaped text)
sends_whole a b text rest none (sent, is, went) =
    subst (λ t. Appends a b (escaped t)) (sym (is ∙ ap (λ s. sent ++ s) none ∙ append-nil sent)) went

-- ---- reading back

no_percent : (b : ℕ) → is_kept b ≡ true → b ≢ 37
unfolding is_kept
no_percent b e = grind (arith, nat_tests)

itself_back : (b : ℕ) (t : List ℕ) → (b == 37) ≡ false → unescaped (b ∷ t) ≡ b ∷ unescaped t
itself_back b [] e = refl
itself_back b (c ∷ []) e = refl
itself_back b (c ∷ d ∷ t) e = ap (λ x. cond (x && is_digit c && is_digit d) ((digit_value c * 16 + digit_value d) ∷ unescaped t) (b ∷ unescaped (c ∷ d ∷ t))) e

number_back : (c d : ℕ) (t : List ℕ) → is_digit c ≡ true → is_digit d ≡ true → unescaped (37 ∷ c ∷ d ∷ t) ≡ (digit_value c * 16 + digit_value d) ∷ unescaped t
number_back c d t e f = ap₂ (λ x y. cond (x && y) ((digit_value c * 16 + digit_value d) ∷ unescaped t) (37 ∷ unescaped (c ∷ d ∷ t))) e f

digit_is : (n : ℕ) → n < 16 → is_digit (hex_digit n) ≡ true
unfolding is_digit hex_digit
digit_is n lt = grind (arith, nat_tests)

digit_back : (n : ℕ) → n < 16 → digit_value (hex_digit n) ≡ n
unfolding digit_value hex_digit
digit_back n lt = grind (arith, nat_tests)

back_by : (b : ℕ) (t : List ℕ) (k : Bool) → is_kept b ≡ k → b < 256 → unescaped (cond k (b ∷ []) (37 ∷ hex_digit (b / 16) ∷ hex_digit (b % 16) ∷ []) ++ t) ≡ b ∷ unescaped t
back_by b t true e lt = itself_back b t (ne_eqb b 37 (no_percent b e))
back_by b t false e lt =
    let high : b / 16 < 16 = omega (arith, lt) in
    let low : b % 16 < 16 = omega arith in
    let is : b / 16 * 16 + b % 16 ≡ b = omega arith in
    number_back (hex_digit (b / 16)) (hex_digit (b % 16)) t (digit_is (b / 16) high) (digit_is (b % 16) low)
    ∙ ap (λ n. n ∷ unescaped t) (ap₂ (λ h l. h * 16 + l) (digit_back (b / 16) high) (digit_back (b % 16) low) ∙ is)

byte_back : (b : ℕ) (t : List ℕ) → b < 256 → unescaped (escaped_byte b ++ t) ≡ b ∷ unescaped t
unfolding escaped_byte
byte_back b t lt = back_by b t (is_kept b) refl lt

-- Every text of bytes reads back as it was.
pub reads_back : (t : List ℕ) → ((k : ℕ) → slice_index t k < 256) → unescaped (escaped t) ≡ t
reads_back [] bytes = refl
reads_back (b ∷ t) bytes = byte_back b (escaped t) (bytes 0) ∙ ap (λ s. b ∷ s) (reads_back t (λ k. bytes (suc k)))

-- ---- no `<`

no_less : (b : ℕ) → is_kept b ≡ true → b ≢ 60
unfolding is_kept
no_less b e = grind (arith, nat_tests)

digit_no_less : (n : ℕ) → hex_digit n ≢ 60
unfolding hex_digit
digit_no_less n = grind (arith, nat_tests)

all_append : (P : ℕ → Type 0) (xs ys : List ℕ) → AllByRecursion P xs → AllByRecursion P ys → AllByRecursion P (xs ++ ys)
all_append P [] ys p q = q
all_append P (x ∷ xs) ys p q = (p.0, all_append P xs ys p.1 q)

closed_by : (b : ℕ) (k : Bool) → is_kept b ≡ k → AllByRecursion (λ c. c ≢ 60) (cond k (b ∷ []) (37 ∷ hex_digit (b / 16) ∷ hex_digit (b % 16) ∷ []))
closed_by b true e = (no_less b e, tt)
closed_by b false e = (λ f. omega (arith, f), (digit_no_less (b / 16), (digit_no_less (b % 16), tt)))

closed_byte : (b : ℕ) → AllByRecursion (λ c. c ≢ 60) (escaped_byte b)
unfolding escaped_byte
closed_byte b = closed_by b (is_kept b) refl

pub closes_nothing : (t : List ℕ) → AllByRecursion (λ c. c ≢ 60) (escaped t)
closes_nothing [] = tt
closes_nothing (b ∷ t) = all_append (λ c. c ≢ 60) (escaped_byte b) (escaped t) (closed_byte b) (closes_nothing t)
