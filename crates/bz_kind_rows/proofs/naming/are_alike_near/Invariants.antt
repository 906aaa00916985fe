use Rattle.std.proofs.Common.{◌≡◌, take}
use Rattle.bz_kind_rows.proofs.naming.are_alike_near.Given as goal

abbrev pub invariant-loop-place : goal.invariant-loop-place
invariant-loop-place l = take l.place l.name ≡ take l.place l.text
