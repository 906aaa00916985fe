use Rattle.std.proofs.Common.{◌≡◌, ◌++◌, length}
use Rattle.bz_sexpr.specs.Nodes.{unquoted}
use Rattle.bz_sexpr.proofs.bytes.unquoted.Given as goal

abbrev pub invariant-loop-b : goal.invariant-loop-b
invariant-loop-b l = l.content.items ++ unquoted l.rest ≡ unquoted l.raw

abbrev pub decreases-loop-b : goal.decreases-loop-b
decreases-loop-b l = length l.rest
