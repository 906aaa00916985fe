use Rattle.std.proofs.Common.{◌≤◌}
use Rattle.bz_since.specs.Halving.{LeadsOn}
use Rattle.bz_since.proofs.following.play.Given as goal

abbrev pub invariant-loop-place : goal.invariant-loop-place
invariant-loop-place l = (l.place ≤ l.fn.to) × LeadsOn l.entries l.fn.from l.place l.fn.net l.net
