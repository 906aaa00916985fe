use Rattle.std.proofs.Common.{take}
use Rattle.std.specs.List.{list_any}
use Rattle.bz_cli_input.specs.Marking.{Marks}
use Rattle.bz_cli_input.specs.Uses.{is_instance_of}
use Rattle.bz_cli_input.proofs.uses.mark_used.Given as goal

abbrev pub invariant-loop-component : goal.invariant-loop-component
invariant-loop-component l = Marks l.initial.used l.used (λ n. list_any (is_instance_of l.parts n) (take l.component-index l.part.components.items))
