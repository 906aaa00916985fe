use Rattle.std.proofs.Common.{take}
use Rattle.std.specs.List.{list_any}
use Rattle.bz_cli_input.specs.Marking.{Marks}
use Rattle.bz_cli_input.specs.Uses.{has_instance_of}
use Rattle.bz_cli_source.proofs.parts.mark_all.Given as goal

abbrev pub invariant-loop-part : goal.invariant-loop-part
invariant-loop-part l = Marks l.initial.used l.used (λ n. list_any (has_instance_of l.parts n) (take l.part-index l.parts))
