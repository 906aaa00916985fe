use Rattle.std.proofs.Common.{◌≡◌, map, take, length}
use Rattle.bz_elab.specs.Growth.{net_number}
use Rattle.bz_elab.proofs.walk.few_numbers.Given as goal

abbrev pub invariant-loop-place : goal.invariant-loop-place
invariant-loop-place l = (length l.few ≡ 6) × (take l.place l.few ≡ map (net_number l.levels) (take l.place l.numbers))
