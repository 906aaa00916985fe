use Rattle.std.proofs.Common.{◌≡◌, map, take}
use Rattle.std.specs.List.{enumerate_from}
use Rattle.bz_cli_input.proofs.Chosen.{tops_in}
use Rattle.bz_cli_input.proofs.tops.unused_names.Given as goal

abbrev pub invariant-loop-number : goal.invariant-loop-number
invariant-loop-number l = map (λ name. name.items) l.names.items ≡ tops_in l.parts (take l.number (enumerate_from 0 l.parts))
