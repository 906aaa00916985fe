use Rattle.std.proofs.Common.{◌≡◌, ◌+◌, drop}
use Rattle.bz_model.specs.Terms.{first_one}
use Rattle.bz_model.proofs.expr.first_one.Given as goal

-- no slot so far holds 1
abbrev pub invariant-loop-place : goal.invariant-loop-place
invariant-loop-place l = first_one l.slots ≡ l.place + first_one (drop l.place l.slots)
