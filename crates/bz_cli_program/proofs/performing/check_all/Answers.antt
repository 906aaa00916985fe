use Rattle.bz_cli_program.proofs.performing.check_all.Goals as goal

pub returns-then-options-clause-several : goal.returns-then-options-clause-several
returns-then-options-clause-several g c = λ several. c.several.ensures.checks

pub returns-else-options-clause-one : goal.returns-else-options-clause-one
returns-else-options-clause-one g c = λ one. (c.check.ensures.plainly, c.check.ensures.object)
