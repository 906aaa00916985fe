-- A number's decimal digits, read back.
use Rattle.std.proofs.Common.{◌≡◌, ◌≢◌, ℕ, zero, suc, ◌+◌, ◌-◌, ◌*◌, ◌/◌, ◌%◌, ◌<◌, ◌≤◌, ◌^◌, Bool, true, false, cond, ◌&&◌, nat_le, List, [], ◌∷◌, ◌++◌, Some, refl, sym, ap, ◌∙◌, arith, ◌==◌, append_assoc, ◌⊎◌, inl, inr}
use Rattle.std.specs.Fmt.{decimal}
use Rattle.std.specs.Char.{is_ascii_digit}
use Rattle.std.proofs.lemmas.Bool.Decides.{nat_tests}
use Rattle.std.proofs.lemmas.Bool.{eqb-true, eq-eqb}
use Rattle.std.proofs.lemmas.Fmt.{decimal_digit, decimal_step_wide, decimal_by_steps_wide}
use Rattle.std.proofs.Math.Arith.{digits_div}
use Rattle.std.proofs.lemmas.Option.{some_pair_parts}
use Rattle.bz_trace_text.specs.Reading.{digits_on, number_at, begins_digit}
use Rattle.bz_trace_text.proofs.Strips.{none-some}

ne-eqb : (a b : ℕ) → (a == b) ≡ false → a ≢ b
ne-eqb a b e same = let yes = eq-eqb a b same in cc

pub eqb-ne : (a b : ℕ) → a ≢ b → (a == b) ≡ false
eqb-ne a b differ = grind (arith, nat_tests)

-- which way a test went
pub chosen : {A : Type 0} (b : Bool) (x y z : A) → cond b x y ≡ z → ((b ≡ true) × (x ≡ z)) ⊎ ((b ≡ false) × (y ≡ z))
chosen true x y z e = inl (refl, e)
chosen false x y z e = inr (refl, e)

pub digit_range : (b : ℕ) → is_ascii_digit b ≡ true → (48 ≤ b) × (b ≤ 57)
digit_range b e = (grind (arith, nat_tests), grind (arith, nat_tests))

pub digit_of : (b : ℕ) → 48 ≤ b → b ≤ 57 → is_ascii_digit b ≡ true
digit_of b from to = grind (arith, nat_tests)

pub le_of : (a b : ℕ) → a ≤ b → nat_le a b ≡ true
le_of a b h = grind (arith, nat_tests)

pub le_from : (a b : ℕ) → nat_le a b ≡ true → a ≤ b
le_from a b h = grind (arith, nat_tests)

pub and_both : (a b : Bool) → (a && b) ≡ true → (a ≡ true) × (b ≡ true)
and_both true b e = (refl, e)
and_both false b e = cc

-- one digit more
pub decimal_more : (n d : ℕ) → 0 < n → d < 10 → n * 10 + d < 10 ^ 64 → decimal (n * 10 + d) ≡ decimal n ++ (48 + d) ∷ []
decimal_more n d some small fits =
    let step = decimal_step_wide (n * 10 + d) (omega arith) fits in
    let q : (n * 10 + d) / 10 ≡ n = digits_div n small in
    let r : (n * 10 + d) % 10 ≡ d = omega arith in
    rw (q, r) at step

-- what goes on from a number is its digits, and no digit stands behind them
pub digits_on_takes : (most n m : ℕ) (t r : List ℕ) → most < 10 ^ 64 → 0 < n → n ≤ most → digits_on most n t ≡ Some (m, r)
    → (decimal n ++ t ≡ decimal m ++ r) × (m ≤ most)
unfolding digits_on
digits_on_takes most n m [] r big some within e = let p = some_pair_parts n m [] r e in (rw (p.0, p.1) refl, rw p.0 at within)
digits_on_takes most n m (b ∷ t) r big some within e =
    elim (chosen (is_ascii_digit b) _ _ _ e) [
      | inl h ↦ elim (chosen (nat_le (n * 10 + (b - 48)) most) _ _ _ h.1) [
        | inl k ↦
            let range = digit_range b h.0 in
            let le = le_from _ _ k.0 in
            let later = digits_on_takes most (n * 10 + (b - 48)) m t r big (omega arith) le k.1 in
            let more = decimal_more n (b - 48) some (omega (arith, range)) (omega arith) in
            let same : 48 + (b - 48) ≡ b = omega (arith, range) in
            ((ap (λ x. decimal n ++ x ∷ t) (sym same) ∙ sym (append_assoc (decimal n) ((48 + (b - 48)) ∷ []) t) ∙ ap (λ s. s ++ t) (sym more)) ∙ later.0, later.1)
        | inr k ↦ absurd (none-some _ k.1)
      ]
      | inr h ↦ let p = some_pair_parts n m (b ∷ t) r h.1 in (rw (p.0, ← p.1) refl, rw p.0 at within)
    ]

pub number_takes : (most m : ℕ) (t r : List ℕ) → most < 10 ^ 64 → number_at most t ≡ Some (m, r) → (t ≡ decimal m ++ r) × (m ≤ most)
unfolding number_at
number_takes most m [] r big e = absurd (none-some _ e)
number_takes most m (b ∷ t) r big e =
    elim (chosen (is_ascii_digit b && nat_le (b - 48) most) _ _ _ e) [
      | inl h ↦
          let both = and_both _ _ h.0 in
          let range = digit_range b both.0 in
          elim (chosen (b == 48) _ _ _ h.1) [
            | inl k ↦
                let is : b ≡ 48 = eqb-true b 48 k.0 in
                let p = some_pair_parts 0 m t r k.1 in
                (rw (← p.0, is, p.1, decimal_digit 0 (omega arith)) refl, rw (← p.0) (omega arith))
            | inr k ↦
                let le = le_from _ _ both.1 in
                let other = ne-eqb b 48 k.0 in
                let later = digits_on_takes most (b - 48) m t r big (omega (arith, range, other)) le k.1 in
                let one = decimal_digit (b - 48) (omega (arith, range)) in
                let same : 48 + (b - 48) ≡ b = omega (arith, range) in
                (ap (λ x. x ∷ t) (sym same) ∙ ap (λ s. s ++ t) (sym one) ∙ later.0, later.1)
          ]
      | inr h ↦ absurd (none-some _ h.1)
    ]

-- the digits of a number are read on
abbrev pub IsRead : ℕ → List ℕ → Type 0
IsRead n ds = (most : ℕ) (t : List ℕ) → 0 < n → n ≤ most → number_at most (ds ++ t) ≡ digits_on most n t

read_one : (n : ℕ) → n < 10 → IsRead n ((48 + n) ∷ [])
unfolding number_at
read_one n h most t some within =
    let d : is_ascii_digit (48 + n) ≡ true = digit_of (48 + n) (omega arith) (omega arith) in
    let same : 48 + n - 48 ≡ n = omega arith in
    let no : (48 + n == 48) ≡ false = eqb-ne (48 + n) 48 (λ e. omega arith) in
    let le : nat_le n most ≡ true = le_of n most within in
    rw (d, same, no, le) refl

read_more : (n : ℕ) (ds : List ℕ) → 10 ≤ n → IsRead (n / 10) ds → IsRead n (ds ++ (48 + n % 10) ∷ [])
unfolding digits_on
read_more n ds h before most t some within =
    let front = before most ((48 + n % 10) ∷ t) (omega arith) (omega arith) in
    let d : is_ascii_digit (48 + n % 10) ≡ true = digit_of (48 + n % 10) (omega arith) (omega arith) in
    let same : n / 10 * 10 + (48 + n % 10 - 48) ≡ n = omega arith in
    let le : nat_le n most ≡ true = le_of n most within in
    ap (number_at most) (append_assoc ds ((48 + n % 10) ∷ []) t) ∙ front ∙ rw (d, same, le) refl

pub ends_there : (most n : ℕ) (r : List ℕ) → begins_digit r ≡ false → digits_on most n r ≡ Some (n, r)
unfolding digits_on
ends_there most n [] e = refl
ends_there most n (b ∷ r) e = rw e refl

zero_again : (most : ℕ) (r : List ℕ) → number_at most (48 ∷ r) ≡ Some (0, r)
unfolding number_at
zero_again most r = let le : nat_le 0 most ≡ true = le_of 0 most (omega arith) in rw le refl

pub number_again : (most n : ℕ) (r : List ℕ) → most < 10 ^ 64 → n ≤ most → begins_digit r ≡ false → number_at most (decimal n ++ r) ≡ Some (n, r)
number_again most zero r big within ends = rw (decimal_digit 0 (omega arith)) (zero_again most r)
number_again most (suc n) r big within ends =
    decimal_by_steps_wide IsRead read_one read_more (suc n) (omega arith) most r (omega arith) within ∙ ends_there most (suc n) r ends
