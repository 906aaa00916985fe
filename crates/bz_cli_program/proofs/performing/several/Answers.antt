use Rattle.bz_cli_program.proofs.performing.several.Goals as goal

pub returns-clause-checks : goal.returns-clause-checks
returns-clause-checks g c = rw c.several.ensures c.check_several-status.ensures.checks
