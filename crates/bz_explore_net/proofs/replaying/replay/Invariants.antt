use Rattle.std.proofs.Common.{take}
use Rattle.bz_explore_net.specs.Replaying.{IsReplayed}
use Rattle.bz_explore_net.proofs.replaying.replay.Given as goal

abbrev pub invariant-loop-entry : goal.invariant-loop-entry
invariant-loop-entry l = IsReplayed l.flat.wiring (take l.entry-index l.entries) l.limit l.net
