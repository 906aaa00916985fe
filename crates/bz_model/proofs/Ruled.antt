-- What rules for widths say of the channels of a component.
use Rattle.std.proofs.Common.{◌≡◌, ℕ, zero, suc, ◌+◌, ◌*◌, ◌<◌, Bool, true, false, IsTrue, ◌&&◌, ◌++◌, List, [], ◌∷◌, length, take, drop, ap, ap₂, sym, ◌∙◌, arith, inl, inr}
use Rattle.std.specs.Prelude.{◌==◌, sum}
use Rattle.std.proofs.lemmas.Bool.{cases_eq}
use Rattle.std.proofs.lemmas.List.Sums.{sum_by-cons}
use Rattle.bz_model.specs.declared.channel.Chan.{Chan}
use Rattle.bz_model.specs.Rows.{width, widths, have_width}
use Rattle.bz_model.specs.Processes.{after}

pub both-true : (a b : Bool) → IsTrue (a && b) → IsTrue a × IsTrue b
both-true true true e = (e, e)
both-true true false e = absurd (cc)
both-true false b e = absurd (cc)

pub eq-true : (a b : ℕ) → IsTrue (a == b) → a ≡ b
eq-true a b e = grind (arith)

-- Channels of one width stand among the first n, or next behind the first n.
taken-have : (n : ℕ) (cs : List Chan) (w i : ℕ) → IsTrue (have_width (take n cs) w) → i < n → i < length cs → width cs (suc i) ≡ w
taken-have zero cs w i e lt le = absurd (omega arith)
taken-have (suc n) [] w i e lt le = absurd (omega arith)
taken-have (suc n) (c ∷ cs) w zero e lt le = eq-true c.width w (both-true (c.width == w) (have_width (take n cs) w) e).0
taken-have (suc n) (c ∷ cs) w (suc i) e lt le = taken-have n cs w i (both-true (c.width == w) (have_width (take n cs) w) e).1 (omega arith) (omega arith)

behind-have : (n : ℕ) (cs : List Chan) (w : ℕ) → IsTrue (have_width (take 1 (drop n cs)) w) → n < length cs → width cs (suc n) ≡ w
behind-have n [] w e lt = absurd (omega arith)
behind-have zero (c ∷ cs) w e lt = eq-true c.width w (both-true (c.width == w) true e).0
behind-have (suc n) (c ∷ cs) w e lt = behind-have n cs w e (omega arith)

-- a rule with one part, with two, and two rules
pub only-true : (a : Bool) → IsTrue (a && true) → IsTrue a
only-true a e = (both-true a true e).0

pub pair-true : (a b : Bool) → IsTrue ((a && (b && true)) && true) → IsTrue a × IsTrue b
pair-true a b e = let both = both-true a (b && true) (only-true (a && (b && true)) e) in (both.0, only-true b both.1)

pub told-twice : (a b : Bool) → IsTrue ((a && true) && (b && true)) → IsTrue a × IsTrue b
told-twice a b e = let both = both-true (a && true) (b && true) e in (only-true a both.0, only-true b both.1)

-- a port, and what stands behind it of its width
pub one-then : (cs : List Chan) (n i : ℕ) → IsTrue (have_width (take n (drop 1 cs)) (width (take 1 cs) 1)) → i < n → suc i < length cs → width cs (suc (suc i)) ≡ width cs 1
one-then [] n i e lt le = absurd (omega arith)
one-then (c ∷ cs) n i e lt le = taken-have n cs c.width i e lt (omega arith)

-- two ports, and an array behind them of the width of the first, by which of both a rule tells first
pub two-then : (cs : List Chan) (n i : ℕ) → IsTrue (have_width (take n (drop 1 (drop 1 cs))) (width (take 1 cs) 1)) → i < n → suc (suc i) < length cs → width cs (after i) ≡ width cs 1
two-then [] n i e lt le = absurd (omega arith)
two-then (c ∷ []) n i e lt le = absurd (omega arith)
two-then (c ∷ d ∷ cs) n i e lt le = taken-have n cs c.width i e lt (omega arith)

pub two-turned : (cs : List Chan) (n i : ℕ) (w : ℕ) → IsTrue (have_width (take n (drop 1 (drop 1 cs))) w) → IsTrue (have_width (take 1 cs) w) → i < n → suc (suc i) < length cs → width cs (after i) ≡ width cs 1
two-turned [] n i w e f lt le = absurd (omega arith)
two-turned (c ∷ []) n i w e f lt le = absurd (omega arith)
two-turned (c ∷ d ∷ cs) n i w e f lt le = taken-have n cs w i e lt (omega arith) ∙ sym (eq-true c.width w (both-true (c.width == w) true f).0)

-- the second and the third of three ports
pub second-third : (cs : List Chan) → 2 < length cs → IsTrue (have_width (take 1 (drop 1 (drop 1 cs))) (width (take 1 (drop 1 cs)) 1)) → width cs 2 ≡ width cs 3
second-third [] lt e = absurd (omega arith)
second-third (a ∷ []) lt e = absurd (omega arith)
second-third (a ∷ b ∷ []) lt e = absurd (omega arith)
second-third (a ∷ b ∷ c ∷ cs) lt e = sym (eq-true c.width b.width (both-true (c.width == b.width) true e).0)

-- the first of three ports is as wide as both others
pub both-sum : (cs : List Chan) → 2 < length cs → IsTrue (width (take 1 cs) 1 == sum (widths (take 1 (drop 1 cs)) ++ (widths (take 1 (drop 1 (drop 1 cs))) ++ []))) → width cs 1 ≡ width cs 2 + width cs 3
both-sum [] lt e = absurd (omega arith)
both-sum (a ∷ []) lt e = absurd (omega arith)
both-sum (a ∷ b ∷ []) lt e = absurd (omega arith)
both-sum (a ∷ b ∷ c ∷ cs) lt e = let is : a.width ≡ 0 + b.width + c.width = eq-true a.width (0 + b.width + c.width) e in omega arith

-- n channels of one width
sum-have : (n : ℕ) (cs : List Chan) (w : ℕ) → IsTrue (have_width (take n cs) w) → length cs ≡ n → sum (widths (take n cs) ++ []) ≡ n * w
sum-have zero cs w e is = omega arith
sum-have (suc n) [] w e is = absurd (omega arith)
sum-have (suc n) (c ∷ cs) w e is =
    let own : c.width ≡ w = eq-true c.width w (both-true (c.width == w) (have_width (take n cs) w) e).0 in
    let rest = sum-have n cs w (both-true (c.width == w) (have_width (take n cs) w) e).1 (omega arith) in
    sum_by-cons (λ x. x) c.width (widths (take n cs) ++ []) ∙ ap₂ (λ a b. a + b) own rest ∙ (let all : w + n * w ≡ suc n * w = omega arith in all)

-- a port that is as wide as the array behind it, whose members have one width
pub joined-sum : (cs : List Chan) (n m : ℕ) → length cs ≡ suc n → n ≡ m → IsTrue (have_width (take m (drop 1 cs)) (width (take m (drop 1 cs)) 1)) → IsTrue (width (take 1 cs) 1 == sum (widths (take m (drop 1 cs)) ++ [])) → width cs 1 ≡ n * width cs 2
joined-sum [] n m is same e f = absurd (omega arith)
joined-sum (c ∷ cs) n m is same e f =
    let whole = sum-have m cs (width (take m cs) 1) e (omega arith) in
    eq-true c.width (sum (widths (take m cs) ++ [])) f ∙ whole ∙ first-of cs n m same
  where
    first-of : (cs : List Chan) (n m : ℕ) → n ≡ m → m * width (take m cs) 1 ≡ n * width (c ∷ cs) 2
    first-of cs zero zero e = omega arith
    first-of cs zero (suc m) e = absurd (omega arith)
    first-of cs (suc n) zero e = absurd (omega arith)
    first-of [] (suc n) (suc m) e = ap (λ k. k * 0) (sym e)
    first-of (d ∷ ds) (suc n) (suc m) e = ap (λ k. k * d.width) (sym e)

-- an array that stands first, and a port behind it, all of one width
pub first-alike : (n : ℕ) (cs : List Chan) (w : ℕ) → length cs ≡ suc n → IsTrue (have_width (take n cs) w) → IsTrue (have_width (take 1 (drop n cs)) w) → (i : ℕ) → i < suc n → width cs (suc i) ≡ width cs 1
first-alike n cs w is members last i lt = all i lt ∙ sym (all 0 (omega arith))
  where
    all : (j : ℕ) → j < suc n → width cs (suc j) ≡ w
    all j lt = elim (cases_eq j n) [
      | inl same ↦ ap (λ k. width cs (suc k)) same ∙ behind-have n cs w last (omega arith)
      | inr differ ↦ taken-have n cs w j members (omega arith) (omega arith)
    ]
