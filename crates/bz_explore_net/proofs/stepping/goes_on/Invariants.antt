use Rattle.std.proofs.Common.{◌≡◌, take}
use Rattle.bz_explore_net.specs.Stepping.{goes_on}
use Rattle.bz_explore_net.proofs.stepping.goes_on.Given as goal

abbrev pub invariant-loop-entry : goal.invariant-loop-entry
invariant-loop-entry l = l.next ≡ goes_on l.fn.from (take l.entry-index l.entries)
