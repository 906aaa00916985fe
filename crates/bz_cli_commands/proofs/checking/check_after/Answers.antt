use Rattle.std.proofs.Common.{None}
use Rattle.std.specs.Option.{option_copied}
use Rattle.bz_cli_input.specs.Statuses.{of_input}
use Rattle.bz_cli_input.specs.Stopping.{IsOfInput}
use Rattle.bz_cli_input.proofs.Answered.{is_of_input}
use Rattle.bz_cli_trace.proofs.Takes.{not_taken_on, taken_text}
use Rattle.bz_cli_commands.specs.Programs.{CheckBehind}
use Rattle.bz_cli_commands.proofs.checking.check_after.Goals as goal

pub returns-in-Ok-clause-checks : goal.returns-in-Ok-clause-checks
returns-in-Ok-clause-checks g c =
    taken_text IsOfInput (λ netlist trace. CheckBehind c.args.is_file c.args.way netlist trace (option_copied c.args.part) _ _ _) _ _ _ _ _ c.in-Ok.ensures.taken c.check_behind.ensures

pub returns-in-Err-clause-checks : goal.returns-in-Err-clause-checks
returns-in-Err-clause-checks g c =
    rw (c.of.ensures, c.from.ensures) (not_taken_on _ _ _ None (of_input c.in-Err.fault) (is_of_input c.in-Err.fault))
