use Rattle.std.proofs.Common.{ℕ, arith}
use Rattle.std.specs.Option.{option_copied}
use Rattle.bz_cli_input.specs.Statuses.{of_input}
use Rattle.bz_cli_input.specs.Stopping.{IsOfInput}
use Rattle.bz_cli_input.proofs.Answered.{is_of_input, not_both}
use Rattle.bz_cli_commands.proofs.Found.{apart_checked}
use Rattle.bz_cli_commands.proofs.checking.check_apart.Goals as goal

pub returns-in-Ok-clause-checks : goal.returns-in-Ok-clause-checks
returns-in-Ok-clause-checks g c =
    apart_checked c.args.way (option_copied c.args.part) _ _ c.in-Ok.netlist.items _ _ _ c.in-Ok.ensures.whole (omega (arith, c.in-Ok.netlist.ok.0, c.in-Ok.ensures.limit)) (rw c.as_slice.ensures.value at c.check_on.ensures)

pub returns-in-Err-clause-checks : goal.returns-in-Err-clause-checks
returns-in-Err-clause-checks g c =
    rw (c.of.ensures, c.from.ensures) (not_both ℕ IsOfInput _ _ (of_input c.in-Err.fault) (is_of_input c.in-Err.fault) _ _)
