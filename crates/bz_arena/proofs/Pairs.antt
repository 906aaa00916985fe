-- Two elements of a list, that is cut in two between them, and what a change of two leaves.
use Rattle.std.proofs.Common.{◌≡◌, ℕ, ◌-◌, ◌<◌, List, ◌++◌, length, get_or, set, sym, ap, ◌∙◌, arith}
use Rattle.std.specs.Fn.{Once}
use Rattle.std.specs.Borrow.{MutBor}
use Rattle.bz_arena.specs.Pairs.{UpdatesBoth}
use Rattle.std.proofs.lemmas.List.{set-append_left, set-append_right, length-set, get_or_append_left, get_or-append_right, set_comm}

module _ {X : Type 0} (xs front back : List X) (whole : xs ≡ front ++ back) where
  -- a write on each side of the cut, where the second is at the cut
  pub set_both : (a b : ℕ) (x y : X) → length front ≡ b → a < b → set front a x ++ set back 0 y ≡ set (set xs a x) b y
  set_both a b x y len lt =
      let zero_off : b - b ≡ 0 = omega arith in
      sym (ap (λ (zs : List X). set (set zs a x) b y) whole
      ∙ ap (λ (zs : List X). set zs b y) (set-append_left front back a x (omega arith))
      ∙ set-append_right (set front a x) back b b y (length-set front a x ∙ len) (omega arith)
      ∙ ap (λ (k : ℕ). set front a x ++ set back k y) zero_off)

  pub set_both_swapped : (a b : ℕ) (x y : X) → length front ≡ a → b < a → set front b y ++ set back 0 x ≡ set (set xs a x) b y
  set_both_swapped a b x y len lt = set_both b a y x len lt ∙ set_comm xs b a y x (omega arith)

  pub read_front : (a : ℕ) (x : X) → a < length front → x ≡ get_or front a x → x ≡ get_or xs a x
  read_front a x lt read = read ∙ sym (ap (λ (zs : List X). get_or zs a x) whole ∙ get_or_append_left front back x a lt)

  pub read_back : (b : ℕ) (x : X) → length front ≡ b → x ≡ get_or back 0 x → x ≡ get_or xs b x
  read_back b x len read =
      let zero_off : b - b ≡ 0 = omega arith in
      read ∙ sym (ap (λ (zs : List X). get_or zs b x) whole ∙ get_or-append_right front back b b x len (omega arith) ∙ ap (λ (k : ℕ). get_or back k x) zero_off)

pub updated_length : {F X R : Type 0} {g : Once F (MutBor X × (MutBor X × Unit {0})) (R × (MutBor X × (MutBor X × Unit {0})))} {f : F} {xs ys : List X} {i j : ℕ} {r : R} → UpdatesBoth g f xs i j r ys → length ys ≡ length xs
updated_length {xs = xs} {i = i} {j = j} u = ap length u.left ∙ length-set (set xs i u.first_left.now) j u.second_left.now ∙ length-set xs i u.first_left.now
