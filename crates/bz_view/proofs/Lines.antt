-- Lines and parts of lines, and texts that grow by them.
use Rattle.std.proofs.Common.{◌≡◌, ℕ, zero, suc, ◌+◌, ◌-◌, ◌/◌, ◌%◌, ◌<◌, ◌≤◌, ◌==◌, ◌&&◌, Bool, true, false, cond, not, Option, Some, None, List, [], ◌∷◌, ◌++◌, codes, length, take, get_or, max, min, refl, sym, ap, ◌∙◌, subst, append_assoc, arith}
use Rattle.std.specs.Fmt.{decimal, digits, digits_onto, digit_glyph}
use Rattle.std.specs.List.{flat_map, list_all, repeat}
use Rattle.std.proofs.lemmas.Bool.Decides.{nat_tests}
use Rattle.std.proofs.lemmas.List.{append-nil, take_all, take_more}
use Rattle.std.proofs.lemmas.List.Folds.{list_any-append}
use Rattle.bz_model.specs.Traces.{byte_form, hex_digit, name_form, value_text}
use Rattle.bz_text.specs.Growing.{Grows, GrowsBy}
use Rattle.bz_text.specs.Pieces.{piece_text}
use Rattle.bz_text.specs.Saying.{blanks_to, width}
use Rattle.bz_text.specs.declared.pieces.Piece.{Piece}
use Rattle.bz_text.specs.declared.pieces.Piece.TheVariants.{Bytes, Number, Value, Name, Carried, Port, Spaced, Path, Steps, At, Called, From, File, Json}
use Rattle.bz_text.proofs.NameLaws.{HasForm, by_number, has_form, hex_from, itself}
use Rattle.bz_text.proofs.Said.{grows_nothing, grows_then}
use Rattle.bz_view.specs.Lines.{AreBlanks, InLine, InTurn, IsLine, stays_in_line}

-- ---- no line feed

pub both : (a b : List ℕ) → InLine a → InLine b → InLine (a ++ b)
both a b n m = rw (list_any-append (λ c. c == 10) a b, n) m

above : (b : ℕ) (t : List ℕ) → 11 ≤ b → InLine t → InLine (b ∷ t)
above b t h n = let other : (b == 10) ≡ false = grind (arith, nat_tests) in rw other n

either : (b : Bool) (x y : List ℕ) → InLine x → InLine y → InLine (cond b x y)
either true x y p q = p
either false x y p q = q

glyph_above : (b : Bool) (d : ℕ) → 11 ≤ cond b (48 + d) (87 + d)
glyph_above true d = omega arith
glyph_above false d = omega arith

onto_clear : (k n : ℕ) (acc : List ℕ) → InLine acc → InLine (digits_onto k 10 false n acc)
onto_clear zero n acc p = p
onto_clear (suc k) n acc p =
    let more : InLine (digit_glyph false (n % 10) ∷ acc) = above (digit_glyph false (n % 10)) acc (glyph_above _ (n % 10)) p in
    either (n / 10 == 0) (digit_glyph false (n % 10) ∷ acc) (digits_onto k 10 false (n / 10) (digit_glyph false (n % 10) ∷ acc)) more
    (onto_clear k (n / 10) (digit_glyph false (n % 10) ∷ acc) more)

decimal_clear : (n : ℕ) → InLine (decimal n)
unfolding digits
decimal_clear n = onto_clear 64 n [] refl

value_clear : (value : Option ℕ) → InLine (value_text value)
value_clear None = refl
value_clear (Some v) = decimal_clear v

form_clear : (b : ℕ) (f : List ℕ) → HasForm b f → InLine f
form_clear b _ (itself p q) = above b [] (omega (arith, p)) refl
form_clear b _ by_number =
    let high = hex_from (b / 16) in
    let low = hex_from (b % 16) in
    above (hex_digit (b / 16)) (hex_digit (b % 16) ∷ []) (omega (arith, high)) (above (hex_digit (b % 16)) [] (omega (arith, low)) refl)

bytes_clear : (name : List ℕ) → InLine (flat_map byte_form name)
bytes_clear [] = refl
bytes_clear (b ∷ bs) = both (byte_form b) (flat_map byte_form bs) (form_clear b (byte_form b) (has_form b)) (bytes_clear bs)

pub name_clear : (name : List ℕ) → InLine (name_form name)
name_clear [] = refl
name_clear (b ∷ bs) = bytes_clear (b ∷ bs)

not_so : (b : Bool) → not b ≡ true → b ≡ false
not_so true e = absurd cc
not_so false e = refl

and_so : (x y : Bool) → (x && y) ≡ true → (x ≡ true) × (y ≡ true)
and_so true y e = (refl, e)
and_so false y e = absurd cc

piece_clear : (p : Piece) → stays_in_line p ≡ true → InLine (piece_text p)
piece_clear (Bytes bytes) e = not_so _ e
piece_clear (Number n) e = decimal_clear n
piece_clear (Value value) e = value_clear value
piece_clear (Name name) e = name_clear name.now
piece_clear (Carried chan) e = absurd cc
piece_clear (Port comp port) e = absurd cc
piece_clear (Spaced numbers) e = absurd cc
piece_clear (Path path) e = absurd cc
piece_clear (Steps path) e = absurd cc
piece_clear (At part position line path) e = absurd cc
piece_clear (Called name) e = absurd cc
piece_clear (From file line column) e = absurd cc
piece_clear (File name) e = absurd cc
piece_clear (Json text) e = absurd cc

pub pieces_clear : (ps : List Piece) → list_all stays_in_line ps ≡ true → InLine (flat_map piece_text ps)
pieces_clear [] e = refl
pieces_clear (p ∷ ps) e =
    let parts = and_so (stays_in_line p) (list_all stays_in_line ps) e in
    both (piece_text p) (flat_map piece_text ps) (piece_clear p parts.0) (pieces_clear ps parts.1)

run_clear : (n : ℕ) → InLine (repeat n (codes " "))
run_clear zero = refl
run_clear (suc n) = run_clear n

-- ---- what is added stays within the line

pub within : (a b : Option (List ℕ)) (t : List ℕ) → InLine t → Grows a b t → GrowsBy InLine a b
within a b t clear g = (t, clear, g)

pub within_nothing : (a : Option (List ℕ)) → GrowsBy InLine a a
within_nothing a = ([], refl, grows_nothing a)

pub within_then : (a b c : Option (List ℕ)) → GrowsBy InLine a b → GrowsBy InLine b c → GrowsBy InLine a c
within_then a b c (s, p, g) (t, q, h) = (s ++ t, both s t p q, grows_then a b c s t g h)

pub blanks_grow : (column : ℕ) (a b : Option (List ℕ)) → Grows a b (blanks_to column a) → GrowsBy AreBlanks a b
blanks_grow column (Some xs) b g = (blanks_to column (Some xs), (min 60 (max 2 (column - width xs)), omega arith, refl), g)
blanks_grow column None None g = (repeat 2 (codes " "), (2, omega arith, refl), tt)
blanks_grow column None (Some ys) g = absurd g

pub within_blanks : (a b : Option (List ℕ)) → GrowsBy AreBlanks a b → GrowsBy InLine a b
within_blanks a b (t, (n, least, is), g) = (t, subst InLine (sym is) (run_clear n), g)

-- ---- a line whose front is told

line_is : (front blanks rest : List ℕ) (n : ℕ) → 2 ≤ n → blanks ≡ repeat n (codes " ") → InLine rest → IsLine front (front ++ (blanks ++ (rest ++ codes "\n")))
line_is front blanks rest zero le is clear = absurd (omega (arith, le))
line_is front blanks rest (suc zero) le is clear = absurd (omega (arith, le))
line_is front blanks rest (suc (suc n)) le is clear = (
  repeat n (codes " ") ++ rest,
  both (repeat n (codes " ")) rest (run_clear n) clear,
  ap (λ b. front ++ (b ++ (rest ++ codes "\n"))) is ∙ ap (λ s. front ++ (32 ∷ 32 ∷ s)) (sym (append_assoc (repeat n (codes " ")) rest (codes "\n"))),
)

pub line_grows : (front : List ℕ) (a b c d e : Option (List ℕ)) → Grows a b front → GrowsBy AreBlanks b c → GrowsBy InLine c d → Grows d e (codes "\n") → GrowsBy (IsLine front) a e
line_grows front a b c d e g (blanks, (n, least, is), h) (rest, clear, k) m = (
  front ++ (blanks ++ (rest ++ codes "\n")),
  line_is front blanks rest n least is clear,
  grows_then a b e front (blanks ++ (rest ++ codes "\n")) g (grows_then b c e blanks (rest ++ codes "\n") h (grows_then c d e rest (codes "\n") k m)),
)

-- ---- one behind the other

turn_then : {X : Type 0} (P : X → List ℕ → Type 0) (xs ys : List X) (s t : List ℕ) → InTurn P xs s → InTurn P ys t → InTurn P (xs ++ ys) (s ++ t)
turn_then P [] ys s t e q = subst (InTurn P ys) (sym (ap (λ u. u ++ t) e)) q
turn_then P (x ∷ xs) ys s t (first, rest, is, p, e) q = (first, rest ++ t, is, turn_then P xs ys rest t p q, ap (λ u. u ++ t) e ∙ append_assoc first rest t)

pub turn_none : {X : Type 0} (P : X → List ℕ → Type 0) (xs : List X) (a : Option (List ℕ)) → GrowsBy (InTurn P (take 0 xs)) a a
turn_none P xs a = ([], refl, grows_nothing a)

pub turn_more : {X : Type 0} (P : X → List ℕ → Type 0) (xs : List X) (i : ℕ) (d : X) (a b c : Option (List ℕ)) → i < length xs → GrowsBy (InTurn P (take i xs)) a b
    → GrowsBy (P (get_or xs i d)) b c → GrowsBy (InTurn P (take (i + 1) xs)) a c
turn_more P xs i d a b c l (s, p, g) (t, q, h) =
    let one : InTurn P (get_or xs i d ∷ []) t = (t, [], q, refl, sym (append-nil t)) in (
      s ++ t,
      subst (λ ys. InTurn P ys (s ++ t)) (sym (take_more xs i d l)) (turn_then P (take i xs) (get_or xs i d ∷ []) s t p one),
      grows_then a b c s t g h,
    )

pub turn_all : {X : Type 0} (P : X → List ℕ → Type 0) (xs : List X) (i : ℕ) (a b : Option (List ℕ)) → length xs ≤ i → GrowsBy (InTurn P (take i xs)) a b → GrowsBy (InTurn P xs) a b
turn_all P xs i a b le grown = subst (λ ys. GrowsBy (InTurn P ys) a b) (take_all i xs le) grown
