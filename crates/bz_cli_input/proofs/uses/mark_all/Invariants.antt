use Rattle.std.proofs.Common.{take}
use Rattle.std.specs.List.{enumerate_from, list_any}
use Rattle.bz_cli_input.specs.Marking.{Marks}
use Rattle.bz_cli_input.specs.Uses.{uses_other}
use Rattle.bz_cli_input.proofs.uses.mark_all.Given as goal

abbrev pub invariant-loop-user : goal.invariant-loop-user
invariant-loop-user l = Marks l.initial.used l.used (λ n. list_any (uses_other l.parts n) (take l.user (enumerate_from 0 l.parts)))
