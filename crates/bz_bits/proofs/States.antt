-- Lists of states as two rows of bits.
use Rattle.std.proofs.Common.{◌≡◌, ℕ, zero, suc, ◌+◌, ◌-◌, ◌*◌, ◌/◌, ◌%◌, ◌<◌, Bool, true, false, not, ◌&&◌, ◌==◌, List, [], ◌∷◌, length, get_or, set, replicate, refl, ap, ◌∙◌, arith, min}
use Rattle.std.specs.Int.{bit_at, from_bool}
use Rattle.std.specs.Prelude.{bit_and}
use Rattle.std.proofs.lemmas.Nat.Bits.{bit_at_and, bit_at-lt}
use Rattle.bz_bits.specs.Ports.{state_of, states}

pub length-states : (ls hs : List Bool) → length ls ≡ length hs → length (states ls hs) ≡ length ls
length-states [] hs e = refl
length-states (l ∷ ls) [] e = absurd (omega arith)
length-states (l ∷ ls) (h ∷ hs) e = ap suc (length-states ls hs (omega arith))

pub get-states : (ls hs : List Bool) (k : ℕ) → length ls ≡ length hs → get_or (states ls hs) k 0 ≡ state_of (get_or ls k false) (get_or hs k false)
get-states [] [] k e = refl
get-states [] (h ∷ hs) k e = absurd (omega arith)
get-states (l ∷ ls) [] k e = absurd (omega arith)
get-states (l ∷ ls) (h ∷ hs) zero e = refl
get-states (l ∷ ls) (h ∷ hs) (suc k) e = get-states ls hs k (omega arith)

pub set-states : (ls hs : List Bool) (k : ℕ) (a b : Bool) → states (set ls k a) (set hs k b) ≡ set (states ls hs) k (state_of a b)
set-states [] hs k a b = refl
set-states (l ∷ ls) [] zero a b = refl
set-states (l ∷ ls) [] (suc k) a b = refl
set-states (l ∷ ls) (h ∷ hs) zero a b = refl
set-states (l ∷ ls) (h ∷ hs) (suc k) a b = ap (λ (xs : List ℕ). state_of l h ∷ xs) (set-states ls hs k a b)

pub states-replicate : (n : ℕ) → states (replicate n false) (replicate n false) ≡ replicate n 0
states-replicate zero = refl
states-replicate (suc n) = ap (λ (xs : List ℕ). 0 ∷ xs) (states-replicate n)

-- a state by its two bits
pub of_halves : (s : ℕ) → s < 4 → state_of (s % 2 == 1) (s / 2 == 1) ≡ s
of_halves zero lt = refl
of_halves (suc zero) lt = refl
of_halves (suc (suc zero)) lt = refl
of_halves (suc (suc (suc zero))) lt = refl
of_halves (suc (suc (suc (suc s)))) lt = absurd (omega arith)

least : (x y : ℕ) → x < 2 → y < 2 → (min x y == 1) ≡ ((x == 1) && (y == 1))
least zero zero xl yl = refl
least zero (suc zero) xl yl = refl
least (suc zero) zero xl yl = refl
least (suc zero) (suc zero) xl yl = refl
least (suc (suc x)) y xl yl = absurd (omega arith)
least x (suc (suc y)) xl yl = absurd (omega arith)

pub both : (a b i : ℕ) → (bit_at (bit_and a b) i == 1) ≡ ((bit_at a i == 1) && (bit_at b i == 1))
both a b i = ap (λ (x : ℕ). x == 1) (bit_at_and a b i) ∙ least (bit_at a i) (bit_at b i) (bit_at-lt a i) (bit_at-lt b i)

pub other : (x : ℕ) → x < 2 → (1 - x == 1) ≡ not (x == 1)
other zero lt = refl
other (suc zero) lt = refl
other (suc (suc x)) lt = absurd (omega arith)

pub value_of : (l h : Bool) → from_bool l + 2 * from_bool h ≡ state_of l h
value_of true true = refl
value_of true false = refl
value_of false true = refl
value_of false false = refl
