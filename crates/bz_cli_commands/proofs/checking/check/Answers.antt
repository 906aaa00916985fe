use Rattle.bz_cli_commands.proofs.checking.check.Goals as goal

pub returns-then-options-clause-object : goal.returns-then-options-clause-object
returns-then-options-clause-object g c = λ so. (_, _, c.check_into.ensures.checks)

pub returns-else-options-clause-plainly : goal.returns-else-options-clause-plainly
returns-else-options-clause-plainly g c = λ plainly. c.check_into-else-options.ensures.checks
