-- What the rule tells the owner of the hints' history.
use Rattle.std.proofs.Common.{◌≡◌, ℕ, zero, suc, ◌+◌, ◌-◌, ◌==◌, cond, min, true, List, [], ◌∷◌, ◌++◌, length, take, sym, refl, ap, ◌∙◌, subst, arith, length-append}
use mathlib.Core.Option.{some, some-injective, some-ne-none}
use lib.ListN.{get_elem?}
use Rattle.std.specs.List.{All, sum_by}
use Rattle.std.proofs.Math.Seq.{take-append_seam}
use Rattle.std.proofs.lemmas.List.Elements.{All-nil, All-append}
use Rattle.std.proofs.lemmas.List.Sums.{sum_by-cons, sum_by-append}
use Rattle.crossbeam_deque.specs.Tasks.{Learns, Finds, FindsFew}
use Rattle.bz_pool_hints.specs.declared.hint.log.Log.{Log}
use Rattle.bz_pool_hints.specs.Hints.{IsSubsequence, IsHistory, times, times_in, before_last, number_in}
use Rattle.bz_pool_hints.specs.HintRules.{Kept, Told, FindsNone, taken_lists, had}

all_lists : List Log → List (List ℕ)
all_lists [] = []
all_lists (v ∷ vs) = taken_lists v ++ all_lists vs

-- the lists of all views but the one at i
other_lists : List Log → ℕ → List (List ℕ)
other_lists [] i = []
other_lists (v ∷ vs) zero = all_lists vs
other_lists (v ∷ vs) (suc i) = taken_lists v ++ other_lists vs i

module _ (h : ℕ → ℕ) where
  weighs_all : (views : List Log) → sum_by (had h) views ≡ sum_by (sum_by h) (all_lists views)
  unfolding all_lists
  weighs_all [] = refl
  weighs_all (v ∷ vs) = let a = sum_by-cons (had h) v vs in let b = sum_by-append (sum_by h) (taken_lists v) (all_lists vs) in let r = weighs_all vs in omega arith

  weighs_others : (views : List Log) (i : ℕ) (v : Log) → get_elem? views i ≡ some v → sum_by (had h) views ≡ had h v + sum_by (sum_by h) (other_lists views i)
  unfolding other_lists
  weighs_others [] i v at = absurd (some-ne-none v (sym at))
  weighs_others (u ∷ vs) zero v at = let a = sum_by-cons (had h) u vs in let e : had h u ≡ had h v = ap (had h) (some-injective u v at) in let r = weighs_all vs in omega arith
  weighs_others (u ∷ vs) (suc i) v at =
      let a = sum_by-cons (had h) u vs in let b = sum_by-append (sum_by h) (taken_lists u) (other_lists vs i) in let r = weighs_others vs i v at in omega arith

module _ (P : List ℕ → Type 0) where
  all_of_all : (views : List Log) → ((i : ℕ) (v : Log) → get_elem? views i ≡ some v → All P (taken_lists v)) → All P (all_lists views)
  unfolding all_lists
  all_of_all [] each = All-nil P
  all_of_all (v ∷ vs) each = All-append P (taken_lists v) (all_lists vs) (each 0 v refl) (all_of_all vs (λ i. each (suc i)))

  all_of_others : (views : List Log) (i : ℕ) → ((i : ℕ) (v : Log) → get_elem? views i ≡ some v → All P (taken_lists v)) → All P (other_lists views i)
  unfolding other_lists
  all_of_others [] i each = All-nil P
  all_of_others (v ∷ vs) zero each = all_of_all vs (λ i. each (suc i))
  all_of_others (v ∷ vs) (suc i) each = All-append P (taken_lists v) (other_lists vs i) (each 0 v refl) (all_of_others vs i (λ j. each (suc j)))

before : (gone items : List ℕ) → before_last (length items) (gone ++ items) ≡ gone
before gone items = let e : length (gone ++ items) - length items ≡ length gone = omega (arith, length-append gone items) in
    ap (λ n. take n (gone ++ items)) e ∙ take-append_seam gone items

ones : (xs : List ℕ) → sum_by (λ _. 1) xs ≡ length xs
ones [] = refl
ones (x ∷ xs) = let a = sum_by-cons (λ _. 1) x xs in let r = ones xs in omega arith

ones_in : (xss : List (List ℕ)) → sum_by (sum_by (λ _. 1)) xss ≡ number_in xss
ones_in [] = refl
ones_in (xs ∷ xss) = let a = sum_by-cons (sum_by (λ _. 1)) xs xss in let b = sum_by-cons (λ (l : List ℕ). length l) xs xss in let o = ones xs in let r = ones_in xss in omega arith

-- 1 for x, and 0 for other numbers
abbrev weight : ℕ → ℕ → ℕ
weight x y = cond (y == x) 1 0

-- the history of any pass, at a moment when the deque held these
told : (items : List ℕ) (views : List Log) (k : Kept items views) (port : ℕ) (v : Log) → get_elem? views port ≡ some v → IsHistory k.put (length items) (taken_lists v)
told items views k port v at =
    let lists = taken_lists v in
    let others = other_lists views port in
    let P : List ℕ → Type 0 = λ xs. IsSubsequence xs k.gone in
    let gone : k.gone ≡ before_last (length items) k.put = sym (ap (before_last (length items)) k.suffix ∙ before k.gone items) in
    let each : (i : ℕ) (u : Log) → get_elem? views i ≡ some u → All P (taken_lists u) = λ i u e. (k.fits i u e).in_order in
    let P_all : All P (lists ++ others) = All-append P lists others (each port v at) (all_of_others P views port each) in
    record {
      others = others;
      number =
          let one : ℕ → ℕ = λ _. 1 in
          let o : sum_by one k.gone ≡ sum_by (had one) views = k.once one in
          let w = weighs_others one views port v at in
          let a : sum_by (sum_by one) (lists ++ others) ≡ had one v + sum_by (sum_by one) others = sum_by-append (sum_by one) lists others in
          let b = ones_in (lists ++ others) in
          let c = ones k.gone in
          let e = ap length k.suffix in
          omega (arith, length-append k.gone items);
      in_order = subst (λ (g : List ℕ). All (λ xs. IsSubsequence xs g) (lists ++ others)) gone P_all;
      once = λ x.
          let h : ℕ → ℕ = weight x in
          let o : sum_by h k.gone ≡ sum_by (had h) views = k.once h in
          let w = weighs_others h views port v at in
          let a : times_in x (lists ++ others) ≡ had h v + sum_by (sum_by h) others = sum_by-append (sum_by h) lists others in
          let s : times x k.gone ≡ times_in x (lists ++ others) = o ∙ w ∙ sym a in
          ap (times x) (sym gone) ∙ s;
    }

-- the owner's
pub learns : (port : ℕ) (v : Log) → v.owner ≡ true → Learns Kept port v (Told v)
learns port v mine items views k at = subst (λ (put : List ℕ). IsHistory put (length items) (taken_lists v)) (sym ((k.fits port v at).knows mine).1) (told items views k port v at)

-- a pass that found nothing
pub finds : (port : ℕ) (v : Log) → Finds Kept port v (FindsNone v)
finds port v views k at = (k.put, λ mine. sym ((k.fits port v at).knows mine).1, told [] views k port v at)

pub finds_few : (flavor port : ℕ) (v : Log) → flavor ≡ 0 → FindsFew Kept (min flavor 1) port v (FindsNone v)
finds_few flavor port v fifo [] views few k at = finds port v views k at
finds_few flavor port v fifo (x ∷ xs) views few k at = absurd (omega arith)
