use Rattle.std.proofs.Common.{◌≡◌, map, take}
use Rattle.bz_elab.specs.Growth.{net_number}
use Rattle.bz_elab.proofs.walk.many_numbers.Given as goal

abbrev pub invariant-loop-number : goal.invariant-loop-number
invariant-loop-number l = l.chans.items ≡ map (net_number l.levels) (take l.number-index l.numbers)
