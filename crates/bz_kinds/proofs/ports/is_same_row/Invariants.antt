use Rattle.std.proofs.Common.{◌≡◌, take}
use Rattle.bz_kinds.proofs.ports.is_same_row.Given as goal

abbrev pub invariant-loop-port : goal.invariant-loop-port
invariant-loop-port l = take l.port l.numbers ≡ take l.port l.others
