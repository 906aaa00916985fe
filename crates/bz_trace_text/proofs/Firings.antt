-- The line of a firing, read by places.
use Rattle.std.proofs.Common.{◌≡◌, ℕ, zero, suc, ◌+◌, ◌-◌, ◌*◌, ◌/◌, ◌%◌, ◌<◌, ◌≤◌, ◌^◌, true, false, nat_le, List, [], ◌∷◌, ◌++◌, length, drop, get_or, Option, Some, refl, sym, ap, ◌∙◌, arith, drop-cons, add-one, codes}
use Rattle.std.specs.Char.{is_ascii_digit}
use Rattle.std.specs.Int.{from_le_bytes, w32}
use Rattle.std.proofs.Math.Nat.{pow-le-pow_right}
use Rattle.std.proofs.lemmas.Bool.{eq-eqb}
use Rattle.std.proofs.lemmas.Nat.{le_bytes_4}
use Rattle.bz_model.specs.declared.channel.Move.{Move}
use Rattle.bz_model.specs.declared.event.Who.TheVariants as who
use Rattle.bz_model.specs.declared.event.Entry.TheVariants as entry
use Rattle.bz_model.specs.Names.{Outside}
use Rattle.bz_model.specs.Entries.{carries_at}
use Rattle.bz_trace_text.specs.Reading.{strip, digits_on, number_at, move_at, carried_at, fired_at, line_at, begins_digit, most_number}
use Rattle.bz_trace_text.proofs.Strips.{strip_again}
use Rattle.bz_trace_text.proofs.Numbers.{le_of, ends_there, eqb-ne, digit_of}
use Rattle.bz_trace_text.proofs.Lines.{worker_fires}

-- from a place on: the byte there, and the rest
pub next : (t : List ℕ) (at : ℕ) → at < length t → drop at t ≡ get_or t at 0 ∷ drop (at + 1) t
next t at h = rw (add-one at) (drop-cons t at 0 h)

-- this byte, and the rest
pub stripped : (t : List ℕ) (at b : ℕ) → at < length t → get_or t at 0 ≡ b → strip (b ∷ []) (drop at t) ≡ Some (drop (at + 1) t)
unfolding strip
stripped t at b h e = rw (next t at h, e, eq-eqb b b refl) refl

pub no_digit_there : (t : List ℕ) (at b : ℕ) → at < length t → get_or t at 0 ≡ b → is_ascii_digit b ≡ false → begins_digit (drop at t) ≡ false
no_digit_there t at b h e other = rw (next t at h, e) other

-- powers of ten, as bounds
pub ten_up : (i j : ℕ) → i ≤ j → 10 ^ i ≤ 10 ^ j
ten_up i j h = pow-le-pow_right {n = 10} (omega arith) {i = i} {j = j} h

-- one digit more
pub digit_more : (top n at d : ℕ) (t : List ℕ) → at < length t → is_ascii_digit (get_or t at 0) ≡ true → n * 10 + (get_or t at 0 - 48) ≡ d → d ≤ top
    → digits_on top n (drop at t) ≡ digits_on top d (drop (at + 1) t)
unfolding digits_on
digit_more top n at d t h is e within = rw (next t at h, is, e, le_of d top within) refl

-- the first digit of a number that isn't 0
pub first_digit : (top from d : ℕ) (t : List ℕ) → from < length t → 49 ≤ get_or t from 0 → get_or t from 0 ≤ 57 → get_or t from 0 - 48 ≡ d → d ≤ top
    → number_at top (drop from t) ≡ digits_on top d (drop (from + 1) t)
unfolding number_at
first_digit top from d t h low high e within =
    rw (next t from h, digit_of (get_or t from 0) (omega (arith, low)) high, e, le_of d top within, eqb-ne (get_or t from 0) 48 (λ x. omega (arith, low, x))) refl

-- a number, up to where its digits end
pub number_ends : (top n : ℕ) (s r : List ℕ) → number_at top s ≡ digits_on top n r → begins_digit r ≡ false → number_at top s ≡ Some (n, r)
number_ends top n s r e ends = e ∙ ends_there top n r ends

pub zero_there : (top from : ℕ) (t : List ℕ) → from < length t → get_or t from 0 ≡ 48 → number_at top (drop from t) ≡ Some (0, drop (from + 1) t)
unfolding number_at
zero_there top from t h e = let le : nat_le 0 top ≡ true = le_of 0 top (omega arith) in rw (next t from h, e, le) refl

small_four : (a b c d : ℕ) → a < 256 → b < 256 → c < 256 → d < 256 → (i : ℕ) → get_or (a ∷ b ∷ c ∷ d ∷ []) i 0 < 256
small_four a b c d a' b' c' d' zero = a'
small_four a b c d a' b' c' d' (suc zero) = b'
small_four a b c d a' b' c' d' (suc (suc zero)) = c'
small_four a b c d a' b' c' d' (suc (suc (suc zero))) = d'
small_four a b c d a' b' c' d' (suc (suc (suc (suc i)))) = omega arith

next_four : (t : List ℕ) (at : ℕ) → at + 4 ≤ length t → drop at t ≡ get_or t at 0 ∷ get_or t (at + 1) 0 ∷ get_or t (at + 2) 0 ∷ get_or t (at + 3) 0 ∷ drop (at + 4) t
next_four t at h =
    let a : at + 1 + 1 ≡ at + 2 = omega arith in
    let b : at + 2 + 1 ≡ at + 3 = omega arith in
    let c : at + 3 + 1 ≡ at + 4 = omega arith in
    let one = next t (at + 1) (omega (arith, h)) ∙ ap (λ i. get_or t (at + 1) 0 ∷ drop i t) a in
    let two = next t (at + 2) (omega (arith, h)) ∙ ap (λ i. get_or t (at + 2) 0 ∷ drop i t) b in
    let three = next t (at + 3) (omega (arith, h)) ∙ ap (λ i. get_or t (at + 3) 0 ∷ drop i t) c in
    next t at (omega (arith, h)) ∙ ap (λ s. get_or t at 0 ∷ s) (one ∙ ap (λ s. get_or t (at + 1) 0 ∷ s) (two ∙ ap (λ s. get_or t (at + 2) 0 ∷ s) three))

-- four bytes that make the same number are the same
pub four_same : (t four : List ℕ) (at x y : ℕ) → at + 4 ≤ length t → length four ≡ 4 → ((i : ℕ) → get_or t i 0 < 256) → ((i : ℕ) → get_or four i 0 < 256)
    → x ≡ from_le_bytes w32 (get_or t at 0 ∷ get_or t (at + 1) 0 ∷ get_or t (at + 2) 0 ∷ get_or t (at + 3) 0 ∷ []) → y ≡ from_le_bytes w32 four → x ≡ y → drop at t ≡ four ++ drop (at + 4) t
four_same t four at x y h l small few there wanted same =
    let bytes = get_or t at 0 ∷ get_or t (at + 1) 0 ∷ get_or t (at + 2) 0 ∷ get_or t (at + 3) 0 ∷ [] in
    let a = le_bytes_4 bytes x refl (small_four (get_or t at 0) (get_or t (at + 1) 0) (get_or t (at + 2) 0) (get_or t (at + 3) 0) (small at) (small (at + 1)) (small (at + 2)) (small (at + 3))) there in
    let b = le_bytes_4 four x l few (same ∙ wanted) in
    next_four t at h ∙ ap (λ s. s ++ drop (at + 4) t) (sym a ∙ b)

-- behind four bytes of a word, the other one or two
pub five : (t : List ℕ) (at a b c d e : ℕ) → at + 5 ≤ length t → drop at t ≡ a ∷ b ∷ c ∷ d ∷ drop (at + 4) t → get_or t (at + 4) 0 ≡ e → drop at t ≡ a ∷ b ∷ c ∷ d ∷ e ∷ drop (at + 5) t
five t at a b c d e h first fifth =
    let end : at + 4 + 1 ≡ at + 5 = omega arith in
    first ∙ ap (λ s. a ∷ b ∷ c ∷ d ∷ s) (next t (at + 4) (omega (arith, h)) ∙ rw fifth (ap (λ i. e ∷ drop i t) end))

pub six : (t : List ℕ) (at a b c d e f : ℕ) → at + 6 ≤ length t → drop at t ≡ a ∷ b ∷ c ∷ d ∷ drop (at + 4) t → get_or t (at + 4) 0 ≡ e → get_or t (at + 5) 0 ≡ f
    → drop at t ≡ a ∷ b ∷ c ∷ d ∷ e ∷ f ∷ drop (at + 6) t
six t at a b c d e f h first fifth sixth =
    let end : at + 5 + 1 ≡ at + 6 = omega arith in
    five t at a b c d e (omega (arith, h)) first fifth ∙ ap (λ s. a ∷ b ∷ c ∷ d ∷ e ∷ s) (next t (at + 5) (omega (arith, h)) ∙ rw sixth (ap (λ i. f ∷ drop i t) end))

-- four bytes that make the number of a first worker's front, and 256 for each worker above it
four_parts : (a b c d k : ℕ) → a < 256 → b < 256 → c < 256 → d < 256 → k ≤ 7 → a + 256 * b + 65536 * c + 16777216 * d ≡ 1713385847 + 256 * k
    → (a ≡ 119) × (b ≡ 49 + k) × (c ≡ 32) × (d ≡ 102)
four_parts a b c d k A B C D few e =
    let fourth : d ≡ 102 = omega (arith, A, B, C, D, few, e) in
    let third : c ≡ 32 = omega (arith, A, B, C, few, e, fourth) in
    let second : b ≡ 49 + k = omega (arith, A, B, few, e, fourth, third) in
    (omega (arith, e, fourth, third, second), second, third, fourth)

-- the first four bytes of a worker's firing, by how far they lie above those of the first worker
pub front_bytes : (a b c d f : ℕ) → a < 256 → b < 256 → c < 256 → d < 256 → f ≡ a + 256 * b + 65536 * c + 16777216 * d
    → (f + 2581581449) % 4294967296 ≤ 1792 → (f + 2581581449) % 4294967296 % 256 ≡ 0
    → (a ≡ 119) × (49 ≤ b) × (b ≤ 56) × (c ≡ 32) × (d ≡ 102) × ((f + 2581581449) % 4294967296 / 256 + 1 ≡ b - 48)
front_bytes a b c d f A B C D e near whole =
    let small : f < 4294967296 = omega (arith, A, B, C, D, e) in
    let few : (f + 2581581449) % 4294967296 / 256 ≤ 7 = omega (arith, near) in
    let above : f ≡ 1713385847 + 256 * ((f + 2581581449) % 4294967296 / 256) = omega (arith, small, near, whole) in
    let parts = four_parts a b c d ((f + 2581581449) % 4294967296 / 256) A B C D few (sym e ∙ above) in
    let second = parts.1 in
    (parts.0, omega (arith, second), omega (arith, second, few), parts.2, parts.3, omega (arith, second))

-- the worker, where its firing's front stands
pub worker_there : (net : Outside) (t : List ℕ) (n : ℕ) → 8 ≤ length t → get_or t 0 0 ≡ 119 → 49 ≤ get_or t 1 0 → get_or t 1 0 ≤ 56 → get_or t 2 0 ≡ 32
    → get_or t 3 0 ≡ 102 → drop 4 t ≡ codes "ire " ++ drop (4 + 4) t → n ≡ get_or t 1 0 - 48 → line_at net t ≡ fired_at net (who.Worker n) (drop 8 t)
worker_there net t n h letter low high third fourth rest is =
    let behind : drop 3 t ≡ 102 ∷ 105 ∷ 114 ∷ 101 ∷ 32 ∷ drop 8 t = next t 3 (omega (arith, h)) ∙ rw fourth (ap (λ s. 102 ∷ s) rest) in
    let fire : drop 2 t ≡ 32 ∷ 102 ∷ 105 ∷ 114 ∷ 101 ∷ 32 ∷ drop 8 t = next t 2 (omega (arith, h)) ∙ rw third (ap (λ s. 32 ∷ s) behind) in
    rw is
    (worker_fires net (get_or t 0 0) (get_or t 1 0) t (drop 1 t) (drop 2 t) (drop 8 t) (next t 0 (omega (arith, h))) letter (next t 1 (omega (arith, h))) low high (rw fire (strip_again (codes " fire ") (drop 8 t))))

-- a byte whose number, less that of the first digit, is at most 9, is a digit
pub digit_past : (b r : ℕ) → r ≡ b → b < 256 → (r + 18446744073709551568) % 18446744073709551616 ≤ 9
    → (48 ≤ b) × (b ≤ 57) × ((r + 18446744073709551568) % 18446744073709551616 ≡ b - 48)
digit_past b r e small near = (omega (arith, e, small, near), omega (arith, e, small, near), omega (arith, e, small, near))

-- the parts of a line make it
pub fired_there : (net : Outside) (n comp chan a b d f : ℕ) (mv : Move) (value : Option ℕ) (t : List ℕ) → line_at net t ≡ fired_at net (who.Worker n) (drop 8 t)
    → (begins_digit (drop a t) ≡ false → number_at most_number (drop 8 t) ≡ Some (comp, drop a t)) → a < length t → get_or t a 0 ≡ 32
    → move_at (drop (a + 1) t) ≡ Some (mv, drop b t)
    → (begins_digit (drop d t) ≡ false → number_at most_number (drop b t) ≡ Some (chan, drop d t))
    → (begins_digit (drop f t) ≡ false → begins_digit (drop d t) ≡ false)
    → (begins_digit (drop f t) ≡ false → carried_at (carries_at net.chans chan mv) (drop d t) ≡ Some (value, drop f t)) → f < length t → get_or t f 0 ≡ 10
    → line_at net t ≡ Some (entry.Fired (who.Worker n) comp 0 chan mv value, drop (f + 1) t)
unfolding fired_at
fired_there net n comp chan a b d f mv value t line comp_is a_in a_is mv_is chan_is before value_is f_in f_is =
    let end = no_digit_there t f 10 f_in f_is refl in
    rw (line, comp_is (no_digit_there t a 32 a_in a_is refl), stripped t a 32 a_in a_is, mv_is, chan_is (before end), value_is end, stripped t f 10 f_in f_is) refl
