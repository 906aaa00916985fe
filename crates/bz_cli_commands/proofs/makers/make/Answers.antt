use Rattle.std.specs.Option.{option_copied}
use Rattle.bz_cli_input.specs.Statuses.{of_input}
use Rattle.bz_cli_input.proofs.Answered.{is_of_input}
use Rattle.bz_cli_trace.proofs.Takes.{not_taken_on, taken_on}
use Rattle.bz_cli_commands.specs.Programs.{MakesOn}
use Rattle.bz_cli_commands.proofs.makers.make.Goals as goal

pub returns-in-Ok-clause-makes : goal.returns-in-Ok-clause-makes
returns-in-Ok-clause-makes g c =
    taken_on (λ netlist trace. MakesOn c.args.maker c.args.given.now.sources.now (option_copied c.args.given.now.part) netlist trace _ _ _) _ _ _ _ _ _ c.in-Ok.ensures.taken c.make_on.ensures

pub returns-in-Err-clause-makes : goal.returns-in-Err-clause-makes
returns-in-Err-clause-makes g c =
    rw (c.of-in-Err.ensures, c.from.ensures) (not_taken_on _ _ _ _ (of_input c.in-Err.fault) (is_of_input c.in-Err.fault))
