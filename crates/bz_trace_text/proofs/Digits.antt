-- How many digits a number has, and where they were written.
use Rattle.std.proofs.Common.{◌≡◌, ℕ, zero, suc, ◌+◌, ◌%◌, ◌/◌, ◌^◌, ◌<◌, ◌≤◌, List, [], ◌∷◌, ◌++◌, take, drop, replicate, get_or, set, length, refl, ap, sym, ◌∙◌, append_assoc, arith, length-append}
use Rattle.std.proofs.Math.Seq.{take-add, take-append-add, take-append_seam}
use Rattle.std.specs.Fmt.{decimal}
use Rattle.std.proofs.lemmas.Fmt.{decimal_digit, decimal_step}
use Rattle.std.proofs.lemmas.List.{length-take-le, take-append-drop, take-set-le, get_or-set_same}

ten_pos : (k : ℕ) → 0 < 10 ^ k
ten_pos zero = omega arith
ten_pos (suc k) = omega (arith, ten_pos k)

-- a number from the power of ten at k, and below the next, has k + 1 digits
pub digits_between : (k n : ℕ) → 10 ^ k ≤ n → n < 10 ^ suc k → n < 2 ^ 64 → length (decimal n) ≡ suc k
digits_between zero n low high fits = ap length (decimal_digit n (omega arith))
digits_between (suc k) n low high fits =
    let some = ten_pos k in
    let long : 10 ≤ n = omega arith in
    let rest = digits_between k (n / 10) (omega arith) (omega arith) (omega arith) in
    omega (arith, rest, ap length (decimal_step n long fits), length-append (decimal (n / 10)) ((48 + n % 10) ∷ []))

-- a text that was written so that it ends at `end`, where it begins at `at`
pub placed : (old new text : List ℕ) (at end start : ℕ) → end ≡ at + length text → start + length text ≡ end → drop start new ≡ text ++ drop end old → take start new ≡ take start old
    → take end new ≡ take at old ++ text
placed old new text at end start e s written before =
    let here : start ≡ at = omega arith in
    rw (e, take-add at (length text) new, ← here, before, written) (ap (λ t. take start old ++ t) (take-append_seam text (drop end old)))

-- what stands in front of a line feed
pub before_feed : (k : ℕ) (word digits : List ℕ) → k + 1 ≤ length word → take (k + 1) word ≡ digits ++ 10 ∷ [] → take k word ≡ digits
before_feed k word digits fits e =
    let long = length-take-le (k + 1) word fits in
    let same = ap length e in
    let parts = length-append digits (10 ∷ []) in
    let is : k ≡ length digits = omega (arith, long, same, parts) in
    let whole : word ≡ digits ++ 10 ∷ drop (k + 1) word =
    sym (take-append-drop (k + 1) word) ∙ ap (λ t. t ++ drop (k + 1) word) e ∙ append_assoc digits (10 ∷ []) (drop (k + 1) word) in
    ap (λ j. take j word) is ∙ ap (take (length digits)) whole ∙ take-append_seam digits (10 ∷ drop (k + 1) word)

-- a word that was written at a place
pub worded : (at : ℕ) (old new word rest : List ℕ) → at ≤ length old → new ≡ take at old ++ (word ++ rest) → take (at + length word) new ≡ take at old ++ word
worded at old new word rest fits e =
    ap (take (at + length word)) e ∙ ap (λ k. take (k + length word) (take at old ++ (word ++ rest))) (sym (length-take-le at old fits))
    ∙ take-append-add (take at old) (word ++ rest) (length word) ∙ ap (λ t. take at old ++ t) (take-append_seam word rest)

feed_at : (m k : ℕ) → k < m → take {A = ℕ} 1 (drop k (replicate m 10)) ≡ 10 ∷ []
feed_at zero k h = absurd (omega arith)
feed_at (suc m) zero h = refl
feed_at (suc m) (suc k) h = feed_at m k (omega arith)

-- digits that were written in front of line feeds, and how many they are in the last of 8 bytes
pub numeral_made : (digits word : List ℕ) (len start : ℕ) → len ≡ length digits → len ≤ 6 → start + length digits ≡ len → 7 < length word → drop start word ≡ digits ++ drop len (replicate 8 10)
    → (get_or (set word 7 len) 7 0 ≡ len) × (take (get_or (set word 7 len) 7 0 + 1) (set word 7 len) ≡ digits ++ 10 ∷ [])
numeral_made digits word len start count few begins long written =
    let feeds : List ℕ = drop len (replicate 8 10) in
    let first : start ≡ 0 = omega arith in
    let whole : word ≡ digits ++ feeds = ap (λ k. drop k word) (sym first) ∙ written in
    let got = get_or-set_same word 7 len 0 long in
    let front : take (len + 1) (set word 7 len) ≡ digits ++ 10 ∷ [] =
    take-set-le (len + 1) word 7 len (omega arith) ∙ ap (take (len + 1)) whole ∙ ap (λ k. take (k + 1) (digits ++ feeds)) count
    ∙ take-append-add digits feeds 1 ∙ ap (λ t. digits ++ t) (feed_at 8 len (omega arith)) in
    (got, ap (λ k. take (k + 1) (set word 7 len)) got ∙ front)
