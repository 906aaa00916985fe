use Rattle.std.proofs.Common.{length}
use Rattle.bz_page.proofs.Escapes.{Sends}
use Rattle.bz_page.proofs.escaping.put_escaped.Given as goal

abbrev pub invariant-loop-rest : goal.invariant-loop-rest
invariant-loop-rest g l = Sends (g.W.Write.contents l.initial.out) (g.W.Write.contents l.out) l.fn.text l.rest

abbrev pub decreases-loop-rest : goal.decreases-loop-rest
decreases-loop-rest g l = length l.rest
