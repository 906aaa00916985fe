use Rattle.std.specs.Option.{option_copied}
use Rattle.bz_complete.specs.Completions.{CompletesApart}
use Rattle.bz_cli_commands.specs.Endings.{of_completed}
use Rattle.bz_cli_commands.proofs.Performed.{does_apart}
use Rattle.bz_cli_commands.proofs.commands.complete.Goals as goal

pub returns-in-Some-clause-completes : goal.returns-in-Some-clause-completes
returns-in-Some-clause-completes g c =
    rw c.in-Some.is (does_apart of_completed _ _ (λ netlist text answer. CompletesApart netlist text (option_copied c.args.part) _ _ answer) c.complete_cmd-completed.result _ c.complete_cmd-completed.ensures.completes c.completed_or_not.ensures)
