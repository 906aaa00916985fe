use Rattle.std.proofs.Common.{[]}
use Rattle.bz_complete.specs.Completing.{Gains}
use Rattle.bz_complete.proofs.settling.settle.Given as goal

abbrev pub invariant-loop : goal.invariant-loop
invariant-loop l = Gains l.fn.net l.net []
