use Rattle.std.proofs.Common.{take}
use Rattle.std.specs.List.{All}
use Rattle.bz_cli.specs.Pooling.{IsAgreed}
use Rattle.bz_cli.proofs.pooling.first_refused.Given as goal

-- none of the ends so far is a refusal
abbrev pub invariant-loop-place : goal.invariant-loop-place
invariant-loop-place l = All IsAgreed (take l.place l.ends)
