-- The line of a firing that is compared and not read.
use Rattle.std.proofs.Common.{◌≡◌, ℕ, zero, suc, ◌+◌, ◌-◌, ◌*◌, ◌/◌, ◌%◌, ◌<◌, ◌≤◌, ◌^◌, false, List, [], ◌∷◌, ◌++◌, length, take, drop, get_or, Some, codes, decimal, append_assoc, bit_and, refl, sym, ap, ap₂, subst, ◌∙◌, arith}
use Rattle.std.specs.Int.{to_le_bytes, w64}
use Rattle.std.proofs.lemmas.Nat.{and_mask}
use Rattle.bz_model.specs.declared.channel.Move.{Move}
use Rattle.bz_model.specs.declared.event.Who.TheVariants as who
use Rattle.bz_model.specs.Names.{Outside}
use Rattle.bz_model.specs.Traces.{move_text}
use Rattle.bz_trace_text.specs.Reading.{begins_digit, fired_at, line_at, most_number, move_at, number_at}
use Rattle.bz_trace_text.proofs.Firings.{next}
use Rattle.bz_trace_text.proofs.LineLaws.{move_again}
use Rattle.bz_trace_text.proofs.Lines.{worker_fires}
use Rattle.bz_trace_text.proofs.Numbers.{number_again}
use Rattle.bz_trace_text.proofs.Strips.{strip_again}
use Rattle.std.proofs.lemmas.List.{drop-drop, take-append-drop, take-take}

-- numbers that are the same modulo a power of 256 begin with the same bytes
same_1 : (n m : ℕ) → n % 256 ≡ m % 256 → take 1 (to_le_bytes w64 n) ≡ take 1 (to_le_bytes w64 m)
same_1 n m e = ap (λ b. b ∷ []) e

same_2 : (n m : ℕ) → n % 65536 ≡ m % 65536 → take 2 (to_le_bytes w64 n) ≡ take 2 (to_le_bytes w64 m)
same_2 n m e =
    let b0 : n % 256 ≡ m % 256 = omega (arith, e) in
    let b1 : n / 256 % 256 ≡ m / 256 % 256 = omega (arith, e) in
    rw (b0, b1) refl

same_3 : (n m : ℕ) → n % 16777216 ≡ m % 16777216 → take 3 (to_le_bytes w64 n) ≡ take 3 (to_le_bytes w64 m)
same_3 n m e =
    let b0 : n % 256 ≡ m % 256 = omega (arith, e) in
    let b1 : n / 256 % 256 ≡ m / 256 % 256 = omega (arith, e) in
    let b2 : n / 65536 % 256 ≡ m / 65536 % 256 = omega (arith, e) in
    rw (b0, b1, b2) refl

same_4 : (n m : ℕ) → n % 4294967296 ≡ m % 4294967296 → take 4 (to_le_bytes w64 n) ≡ take 4 (to_le_bytes w64 m)
same_4 n m e =
    let b0 : n % 256 ≡ m % 256 = omega (arith, e) in
    let b1 : n / 256 % 256 ≡ m / 256 % 256 = omega (arith, e) in
    let b2 : n / 65536 % 256 ≡ m / 65536 % 256 = omega (arith, e) in
    let b3 : n / 16777216 % 256 ≡ m / 16777216 % 256 = omega (arith, e) in
    rw (b0, b1, b2, b3) refl

same_5 : (n m : ℕ) → n % 1099511627776 ≡ m % 1099511627776 → take 5 (to_le_bytes w64 n) ≡ take 5 (to_le_bytes w64 m)
same_5 n m e =
    let b0 : n % 256 ≡ m % 256 = omega (arith, e) in
    let b1 : n / 256 % 256 ≡ m / 256 % 256 = omega (arith, e) in
    let b2 : n / 65536 % 256 ≡ m / 65536 % 256 = omega (arith, e) in
    let b3 : n / 16777216 % 256 ≡ m / 16777216 % 256 = omega (arith, e) in
    let b4 : n / 4294967296 % 256 ≡ m / 4294967296 % 256 = omega (arith, e) in
    rw (b0, b1, b2, b3, b4) refl

same_6 : (n m : ℕ) → n % 281474976710656 ≡ m % 281474976710656 → take 6 (to_le_bytes w64 n) ≡ take 6 (to_le_bytes w64 m)
same_6 n m e =
    let b0 : n % 256 ≡ m % 256 = omega (arith, e) in
    let b1 : n / 256 % 256 ≡ m / 256 % 256 = omega (arith, e) in
    let b2 : n / 65536 % 256 ≡ m / 65536 % 256 = omega (arith, e) in
    let b3 : n / 16777216 % 256 ≡ m / 16777216 % 256 = omega (arith, e) in
    let b4 : n / 4294967296 % 256 ≡ m / 4294967296 % 256 = omega (arith, e) in
    let b5 : n / 1099511627776 % 256 ≡ m / 1099511627776 % 256 = omega (arith, e) in
    rw (b0, b1, b2, b3, b4, b5) refl

same_7 : (n m : ℕ) → n % 72057594037927936 ≡ m % 72057594037927936 → take 7 (to_le_bytes w64 n) ≡ take 7 (to_le_bytes w64 m)
same_7 n m e =
    let b0 : n % 256 ≡ m % 256 = omega (arith, e) in
    let b1 : n / 256 % 256 ≡ m / 256 % 256 = omega (arith, e) in
    let b2 : n / 65536 % 256 ≡ m / 65536 % 256 = omega (arith, e) in
    let b3 : n / 16777216 % 256 ≡ m / 16777216 % 256 = omega (arith, e) in
    let b4 : n / 4294967296 % 256 ≡ m / 4294967296 % 256 = omega (arith, e) in
    let b5 : n / 1099511627776 % 256 ≡ m / 1099511627776 % 256 = omega (arith, e) in
    let b6 : n / 281474976710656 % 256 ≡ m / 281474976710656 % 256 = omega (arith, e) in
    rw (b0, b1, b2, b3, b4, b5, b6) refl

pub masked : (n m c : ℕ) → c ≤ 7 → bit_and n (2 ^ (8 * c) - 1) ≡ bit_and m (2 ^ (8 * c) - 1) → take c (to_le_bytes w64 n) ≡ take c (to_le_bytes w64 m)
masked n m zero few e = refl
masked n m (suc zero) few e = same_1 n m (sym (and_mask n 8) ∙ e ∙ and_mask m 8)
masked n m (suc (suc zero)) few e = same_2 n m (sym (and_mask n 16) ∙ e ∙ and_mask m 16)
masked n m (suc (suc (suc zero))) few e = same_3 n m (sym (and_mask n 24) ∙ e ∙ and_mask m 24)
masked n m (suc (suc (suc (suc zero)))) few e = same_4 n m (sym (and_mask n 32) ∙ e ∙ and_mask m 32)
masked n m (suc (suc (suc (suc (suc zero))))) few e = same_5 n m (sym (and_mask n 40) ∙ e ∙ and_mask m 40)
masked n m (suc (suc (suc (suc (suc (suc zero)))))) few e = same_6 n m (sym (and_mask n 48) ∙ e ∙ and_mask m 48)
masked n m (suc (suc (suc (suc (suc (suc (suc zero))))))) few e = same_7 n m (sym (and_mask n 56) ∙ e ∙ and_mask m 56)
masked n m (suc (suc (suc (suc (suc (suc (suc (suc c)))))))) few e = absurd (omega arith)

-- as many bytes of a word stand at a place
pub counted_there : (t word : List ℕ) (at n m k mask : ℕ) → k ≤ 7 → mask ≡ 2 ^ (8 * k) - 1 → to_le_bytes w64 n ≡ take 8 (drop at t) → to_le_bytes w64 m ≡ word → bit_and n mask ≡ bit_and m mask
    → drop at t ≡ take k word ++ drop (at + k) t
counted_there t word at n m k mask few is text_is word_is same =
    let e : bit_and n (2 ^ (8 * k) - 1) ≡ bit_and m (2 ^ (8 * k) - 1) = subst (λ x. bit_and n x ≡ bit_and m x) is same in
    let front : take k (take 8 (drop at t)) ≡ take k word = ap (take k) (sym text_is) ∙ masked n m k few e ∙ ap (take k) word_is in
    let short : take k (take 8 (drop at t)) ≡ take k (drop at t) = take-take k 8 (drop at t) (omega (arith, few)) in
    sym (take-append-drop k (drop at t)) ∙ ap₂ (λ x y. x ++ y) (sym short ∙ front) (drop-drop k at t)

-- and all eight
pub eight_there : (t word : List ℕ) (n m : ℕ) → to_le_bytes w64 n ≡ take 8 (drop 0 t) → to_le_bytes w64 m ≡ word → n ≡ m → t ≡ word ++ drop 8 t
eight_there t word n m text_is word_is same = sym (take-append-drop 8 t) ∙ ap (λ x. x ++ drop 8 t) (sym text_is ∙ ap (to_le_bytes w64) same ∙ word_is)

-- the front of the line of a firing of the first worker
pub first_fires : (net : Outside) (t r : List ℕ) → t ≡ codes "w1 fire " ++ r → line_at net t ≡ fired_at net (who.Worker 1) r
first_fires net t r is = worker_fires net 119 49 t (49 ∷ (codes " fire " ++ r)) (codes " fire " ++ r) r is refl refl (omega arith) (omega arith) (strip_again (codes " fire ") r)

-- a number, up to where its digits end
pub number_there : (n : ℕ) (t : List ℕ) (at end : ℕ) → n ≤ most_number → drop at t ≡ decimal n ++ drop end t → begins_digit (drop end t) ≡ false → number_at most_number (drop at t) ≡ Some (n, drop end t)
number_there n t at end within is ends = ap (number_at most_number) is ∙ number_again most_number n (drop end t) (omega arith) within ends

-- a move between two spaces
pub move_there : (mv : Move) (t : List ℕ) (at end : ℕ) → at < length t → drop at t ≡ (codes " " ++ (move_text mv ++ codes " ")) ++ drop end t → (get_or t at 0 ≡ 32) × (move_at (drop (at + 1) t) ≡ Some (mv, drop end t))
move_there mv t at end h is =
    let both : get_or t at 0 ∷ drop (at + 1) t ≡ 32 ∷ ((move_text mv ++ codes " ") ++ drop end t) = sym (next t at h) ∙ is in
    (ap (λ l. get_or l 0 0) both, ap (λ l. move_at (drop 1 l)) both ∙ ap move_at (append_assoc (move_text mv) (codes " ") (drop end t)) ∙ move_again mv (drop end t))
