use Rattle.std.proofs.Common.{◌≡◌, drop}
use Rattle.bz_elab.specs.Growth.{net_number}
use Rattle.bz_elab.proofs.walk.net_number.Given as goal

abbrev pub invariant-loop-level : goal.invariant-loop-level
invariant-loop-level l = net_number (drop l.level-index l.levels) l.number ≡ net_number l.levels l.fn.number
