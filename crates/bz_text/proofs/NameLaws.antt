-- Name forms: no two names have one, and none begins another.
use Rattle.std.proofs.Common.{◌≡◌, ◌≢◌, ℕ, ◌/◌, ◌%◌, ◌≤◌, Bool, true, false, cond, List, [], ◌∷◌, ◌++◌, refl, sym, ap₂, ◌∙◌, arith, append_assoc}
use Rattle.std.specs.List.{flat_map}
use Rattle.std.proofs.lemmas.Bool.Decides.{nat_tests}
use Rattle.bz_model.specs.Traces.{is_plain, hex_digit, name_form, byte_form}

pub hex_from : (n : ℕ) → 48 ≤ hex_digit n
unfolding hex_digit
hex_from n = grind (arith, nat_tests)

pub hex_same : (m n : ℕ) → hex_digit m ≡ hex_digit n → m ≡ n
unfolding hex_digit
hex_same m n e = grind (arith, nat_tests)

plain_range : (b : ℕ) → is_plain b ≡ true → (33 ≤ b) × (b ≢ 37)
unfolding is_plain
plain_range b e = (grind (arith, nat_tests), grind (arith, nat_tests))

pub cons_same : {X : Type 0} {x y : X} {xs ys : List X} → (x ∷ xs) ≡ (y ∷ ys) → (x ≡ y) × (xs ≡ ys)
cons_same e = (cc, cc)

-- the form of a byte is itself, or three bytes
pub data HasForm (b : ℕ) : List ℕ → Type 0 where
  itself : 33 ≤ b → b ≢ 37 → HasForm b (b ∷ [])
  by_number : HasForm b (37 ∷ hex_digit (b / 16) ∷ hex_digit (b % 16) ∷ [])

form_by : (b : ℕ) (plain : Bool) → is_plain b ≡ plain → HasForm b (cond plain (b ∷ []) (37 ∷ hex_digit (b / 16) ∷ hex_digit (b % 16) ∷ []))
form_by b true e = let r = plain_range b e in itself r.0 r.1
form_by b false e = by_number

pub has_form : (b : ℕ) → HasForm b (byte_form b)
unfolding byte_form
has_form b = form_by b (is_plain b) refl

same_byte : (b c : ℕ) (f g x y : List ℕ) → HasForm b f → HasForm c g → f ++ x ≡ g ++ y → (b ≡ c) × (x ≡ y)
same_byte b c _ _ x y (itself p q) (itself r s) e = cons_same e
same_byte b c _ _ x y (itself p q) by_number e = absurd (q (cons_same e).0)
same_byte b c _ _ x y by_number (itself r s) e = absurd (s (sym (cons_same e).0))
same_byte b c _ _ x y by_number by_number e =
    let one = cons_same (cons_same e).1 in
    let two = cons_same one.1 in
    let high = hex_same (b / 16) (c / 16) one.0 in
    let low = hex_same (b % 16) (c % 16) two.0 in
    (omega (arith, high, low), two.1)

-- a form begins with no space
no_space : (b : ℕ) (f x y : List ℕ) → HasForm b f → f ++ x ≡ 32 ∷ y → ⊥
no_space b _ x y (itself p q) e = let h = (cons_same e).0 in omega arith
no_space b _ x y by_number e = let h = (cons_same e).0 in omega arith

-- nor is it the form of the empty name
not_empty : (b : ℕ) (f x y : List ℕ) → HasForm b f → f ++ x ≡ 37 ∷ 32 ∷ y → ⊥
not_empty b _ x y (itself p q) e = q (cons_same e).0
not_empty b _ x y by_number e = let h = (cons_same (cons_same e).1).0 in let k = hex_from (b / 16) in omega arith

pub same_bytes : (a b x y : List ℕ) → flat_map byte_form a ++ 32 ∷ x ≡ flat_map byte_form b ++ 32 ∷ y → (a ≡ b) × (x ≡ y)
same_bytes [] [] x y e = (refl, (cons_same e).1)
same_bytes [] (c ∷ b) x y e = absurd (no_space c (byte_form c) (flat_map byte_form b ++ 32 ∷ y) x (has_form c) (sym (append_assoc (byte_form c) (flat_map byte_form b) (32 ∷ y)) ∙ sym e))
same_bytes (c ∷ a) [] x y e = absurd (no_space c (byte_form c) (flat_map byte_form a ++ 32 ∷ x) y (has_form c) (sym (append_assoc (byte_form c) (flat_map byte_form a) (32 ∷ x)) ∙ e))
same_bytes (c ∷ a) (d ∷ b) x y e =
    let one = same_byte c d (byte_form c) (byte_form d) (flat_map byte_form a ++ 32 ∷ x) (flat_map byte_form b ++ 32 ∷ y) (has_form c) (has_form d)
    (sym (append_assoc (byte_form c) (flat_map byte_form a) (32 ∷ x)) ∙ e ∙ append_assoc (byte_form d) (flat_map byte_form b) (32 ∷ y)) in
    let rest = same_bytes a b x y one.1 in
    (ap₂ (λ p q. p ∷ q) one.0 rest.0, rest.1)

-- A form and the space behind it tell the name.
pub same_name : (a b x y : List ℕ) → name_form a ++ 32 ∷ x ≡ name_form b ++ 32 ∷ y → (a ≡ b) × (x ≡ y)
same_name [] [] x y e = (refl, (cons_same (cons_same e).1).1)
same_name [] (c ∷ b) x y e = absurd (not_empty c (byte_form c) (flat_map byte_form b ++ 32 ∷ y) x (has_form c) (sym (append_assoc (byte_form c) (flat_map byte_form b) (32 ∷ y)) ∙ sym e))
same_name (c ∷ a) [] x y e = absurd (not_empty c (byte_form c) (flat_map byte_form a ++ 32 ∷ x) y (has_form c) (sym (append_assoc (byte_form c) (flat_map byte_form a) (32 ∷ x)) ∙ e))
same_name (c ∷ a) (d ∷ b) x y e = same_bytes (c ∷ a) (d ∷ b) x y e
