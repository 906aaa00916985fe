-- Strings of JSON read back as the texts that they were made of.
use Rattle.std.proofs.Common.{◌≡◌, ℕ, ◌<◌, ◌+◌, ◌*◌, ◌/◌, ◌%◌, ◌==◌, ◌||◌, Bool, true, false, cond, nat_lt, List, [], ◌∷◌, ◌++◌, refl, sym, ap, ap₂, subst, arith}
use Rattle.std.proofs.lemmas.Bool.Decides.{nat_tests}
use Rattle.bz_model.specs.Traces.{hex_digit}
use Rattle.bz_text.specs.Json.{Reads, ReadsAs, json_inside, nothing, itself, quote, backslash, number}
use Rattle.bz_text.proofs.NameLaws.{cons_same, hex_same}

by_tests : (b : ℕ) (q s c : Bool) (inside text : List ℕ) → (b == 34) ≡ q → (b == 92) ≡ s → nat_lt b 32 ≡ c → Reads inside text
    → Reads (cond (q || s) (92 ∷ b ∷ []) (cond c (92 ∷ 117 ∷ 48 ∷ 48 ∷ hex_digit (b / 16) ∷ hex_digit (b % 16) ∷ []) (b ∷ [])) ++ inside) (b ∷ text)
by_tests b true s c inside text e f h r = let is : b ≡ 34 = grind (arith, nat_tests) in subst (λ n. Reads (92 ∷ n ∷ inside) (n ∷ text)) (sym is) (quote r)
by_tests b false true c inside text e f h r = let is : b ≡ 92 = grind (arith, nat_tests) in subst (λ n. Reads (92 ∷ n ∷ inside) (n ∷ text)) (sym is) (backslash r)
by_tests b false false true inside text e f h r =
    let low : b < 32 = grind (arith, nat_tests) in
    let is : b / 16 * 16 + b % 16 ≡ b = omega arith in
    subst (λ n. Reads (92 ∷ 117 ∷ 48 ∷ 48 ∷ hex_digit (b / 16) ∷ hex_digit (b % 16) ∷ inside) (n ∷ text)) is (number (omega (arith, low)) (omega arith) r)
by_tests b false false false inside text e f h r = itself (grind (arith, nat_tests)) (grind (arith, nat_tests)) (grind (arith, nat_tests)) r

reads : (text : List ℕ) → Reads (json_inside text) text
reads [] = nothing
reads (b ∷ text) = by_tests b (b == 34) (b == 92) (nat_lt b 32) (json_inside text) text refl refl refl (reads text)

-- what reads in one way reads in no other
same : {x y a b : List ℕ} → Reads x a → Reads y b → x ≡ y → a ≡ b
same nothing nothing e = refl
same nothing (itself p q r s) e = absurd cc
same nothing (quote s) e = absurd cc
same nothing (backslash s) e = absurd cc
same nothing (number p q s) e = absurd cc
same (itself p q r s) nothing e = absurd cc
same (itself p q r s) (itself t u v w) e = ap₂ (λ n m. n ∷ m) (cons_same e).0 (same s w (cons_same e).1)
same (itself p q r s) (quote w) e = absurd (r (cons_same e).0)
same (itself p q r s) (backslash w) e = absurd (r (cons_same e).0)
same (itself p q r s) (number t u w) e = absurd (r (cons_same e).0)
same (quote s) nothing e = absurd cc
same (quote s) (itself t u v w) e = absurd (v (sym (cons_same e).0))
same (quote s) (quote w) e = ap (λ m. 34 ∷ m) (same s w (cons_same (cons_same e).1).1)
same (quote s) (backslash w) e = absurd (omega (arith, (cons_same (cons_same e).1).0))
same (quote s) (number t u w) e = absurd (omega (arith, (cons_same (cons_same e).1).0))
same (backslash s) nothing e = absurd cc
same (backslash s) (itself t u v w) e = absurd (v (sym (cons_same e).0))
same (backslash s) (quote w) e = absurd (omega (arith, (cons_same (cons_same e).1).0))
same (backslash s) (backslash w) e = ap (λ m. 92 ∷ m) (same s w (cons_same (cons_same e).1).1)
same (backslash s) (number t u w) e = absurd (omega (arith, (cons_same (cons_same e).1).0))
same (number p q s) nothing e = absurd cc
same (number p q s) (itself t u v w) e = absurd (v (sym (cons_same e).0))
same (number p q s) (quote w) e = absurd (omega (arith, (cons_same (cons_same e).1).0))
same (number p q s) (backslash w) e = absurd (omega (arith, (cons_same (cons_same e).1).0))
same (number p q s) (number t u w) e =
    let high = cons_same (cons_same (cons_same (cons_same (cons_same e).1).1).1).1 in
    let low = cons_same high.1 in
    ap₂ (λ n m. n ∷ m) (ap₂ (λ n m. n * 16 + m) (hex_same _ _ high.0) (hex_same _ _ low.0)) (same s w low.1)

pub reads_as : (text : List ℕ) → ReadsAs (json_inside text) text
reads_as text = (reads text, λ other r. same r (reads text) refl)
