-- Names in name form, read freely.
use Rattle.std.proofs.Common.{◌≡◌, ◌≢◌, ℕ, zero, suc, ◌+◌, ◌*◌, ◌<◌, List, [], ◌∷◌, ◌++◌, length, get_or, refl, sym, ap₂, ◌∙◌, subst, arith}
use Rattle.std.specs.Char.{digit_value}
use Rattle.bz_words.specs.Words.{percent, colon, SpellsBytes, nothing, itself, by_number, IsName}

pub cons_same : {X : Type 0} {x y : X} {xs ys : List X} → (x ∷ xs) ≡ (y ∷ ys) → (x ≡ y) × (xs ≡ ys)
cons_same e = (cc, cc)

-- two forms, one after the other
pub spells_append : {front a rest b : List ℕ} → SpellsBytes front a → SpellsBytes rest b → SpellsBytes (front ++ rest) (a ++ b)
spells_append nothing t = t
spells_append (itself p q s) t = itself p q (spells_append s t)
spells_append (by_number p h l v s) t = by_number p h l v (spells_append s t)

-- what follows a form that spells bytes spells bytes where the whole does
spells_rest : {front a whole b : List ℕ} (rest : List ℕ) → SpellsBytes front a → SpellsBytes whole b → whole ≡ front ++ rest → (c : List ℕ) × SpellsBytes rest c
spells_rest {b} rest nothing t e = (b, subst (λ (s : List ℕ). SpellsBytes s b) e t)
spells_rest rest (itself p q s) nothing e = cc
spells_rest rest (itself p q s) (itself p' q' t) e = spells_rest rest s t (cons_same e).1
spells_rest rest (itself p q s) (by_number p' h l v t) e = absurd (p (sym (cons_same e).0 ∙ p'))
spells_rest rest (by_number p h l v s) nothing e = cc
spells_rest rest (by_number p h l v s) (itself p' q' t) e = absurd (p' ((cons_same e).0 ∙ p))
spells_rest rest (by_number p h l v s) (by_number p' h' l' v' t) e = spells_rest rest s t (cons_same (cons_same (cons_same e).1).1).1

-- a form spells one list of bytes at most
same_bytes : {form a other b : List ℕ} → SpellsBytes form a → SpellsBytes other b → form ≡ other → a ≡ b
same_bytes nothing nothing e = refl
same_bytes nothing (itself p q t) e = cc
same_bytes nothing (by_number p h l v t) e = cc
same_bytes (itself p q s) nothing e = cc
same_bytes (itself p q s) (itself p' q' t) e = ap₂ (λ x xs. x ∷ xs) (cons_same e).0 (same_bytes s t (cons_same e).1)
same_bytes (itself p q s) (by_number p' h l v t) e = absurd (p ((cons_same e).0 ∙ p'))
same_bytes (by_number p h l v s) nothing e = cc
same_bytes (by_number p h l v s) (itself p' q' t) e = absurd (p' (sym (cons_same e).0 ∙ p))
same_bytes (by_number p h l v s) (by_number p' h' l' v' t) e =
    let second = cons_same (cons_same e).1 in
    let third = cons_same second.1 in
    ap₂ (λ x xs. x ∷ xs) (v ∙ ap₂ (λ high low. digit_value high * 16 + digit_value low) second.0 third.0 ∙ sym v') (same_bytes s t third.1)

abbrev pub NoColon : List ℕ → Type 0
NoColon s = (i : ℕ) → i < length s → get_or s i 0 ≢ colon

-- a hexadecimal digit is no colon
no_digit : (b : ℕ) → digit_value b < 16 → b ≢ colon
no_digit b small e = let P : ℕ → Type 0 = λ n. digit_value n < 16 in let past : digit_value 58 < 16 = subst P e small in omega (arith, past)

no_colon : {form name : List ℕ} → SpellsBytes form name → (i : ℕ) → i < length form → get_or form i 0 ≢ colon
no_colon nothing i h = λ e. omega arith
no_colon (itself p q s) zero h = q
no_colon (itself p q s) (suc i) h = no_colon s i (omega arith)
no_colon (by_number p hi lo v s) zero h = λ e. omega arith
no_colon (by_number {high} p hi lo v s) (suc zero) h = no_digit high hi
no_colon (by_number {low} p hi lo v s) (suc (suc zero)) h = no_digit low lo
no_colon (by_number p hi lo v s) (suc (suc (suc i))) h = no_colon s i (omega arith)

-- `%` alone spells no bytes
lone_percent : {form name : List ℕ} → SpellsBytes form name → form ≡ percent ∷ [] → ⊥
lone_percent nothing e = cc
lone_percent (itself p q s) e = p (cons_same e).0
lone_percent (by_number p h l v s) e = let tail = (cons_same e).1 in cc

bytes_from_name : (form name : List ℕ) → form ≢ percent ∷ [] → IsName form name → SpellsBytes form name
bytes_from_name form [] h s = absurd (h s)
bytes_from_name form (b ∷ bs) h s = s

-- no name has a form with a rest that spells no bytes
pub no_name : (form front rest bytes name : List ℕ) → form ≢ percent ∷ [] → form ≡ front ++ rest → SpellsBytes front bytes → ((c : List ℕ) → SpellsBytes rest c → ⊥) → IsName form name → ⊥
no_name form front rest bytes name other e s none is =
    let after = spells_rest rest s (bytes_from_name form name other is) e in
    none after.0 after.1

-- a form is that of one name at most
pub same_name : (form a b : List ℕ) → IsName form a → IsName form b → a ≡ b
same_name form [] [] s t = refl
same_name form [] (b ∷ bs) s t = absurd (lone_percent t s)
same_name form (x ∷ xs) [] s t = absurd (lone_percent s t)
same_name form (x ∷ xs) (b ∷ bs) s t = same_bytes s t refl

-- `%` alone has no colon, nor has any name
lone : (form : List ℕ) (i : ℕ) → form ≡ percent ∷ [] → i < length form → get_or form i 0 ≢ colon
lone form i e h is =
    let P : List ℕ → Type 0 = λ s. (i < length s) × (get_or s i 0 ≡ colon) in
    at_none i (subst P e (h, is))
  where
    at_none : (i : ℕ) → (i < 1) × (get_or (percent ∷ []) i 0 ≡ colon) → ⊥
    at_none zero f = omega (arith, f.1)
    at_none (suc i) f = omega (arith, f.0)

pub name_no_colon : (form name : List ℕ) → IsName form name → NoColon form
name_no_colon form (b ∷ bs) s = no_colon s
name_no_colon form [] s = λ i h. lone form i s h
