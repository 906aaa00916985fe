use Rattle.std.proofs.Common.{◌≡◌, ◌<◌, ℕ, true}
use Rattle.bz_elab.specs.Numbers.{is_marked, IsBelow}
use Rattle.bz_elab.proofs.reach.first_recursive.Given as goal

abbrev pub invariant-loop-place : goal.invariant-loop-place
invariant-loop-place l = (m : ℕ) → m < l.place → is_marked l.marks m ≡ true → IsBelow l.parts m m → ⊥
