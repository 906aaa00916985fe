use Rattle.bz_cli_program.proofs.performing.draw_all.Goals as goal

pub returns-in-Some-clause-draws : goal.returns-in-Some-clause-draws
returns-in-Some-clause-draws g c = rw c.in-Some.is c.make.ensures.makes

pub returns-in-None-clause-draws : goal.returns-in-None-clause-draws
returns-in-None-clause-draws g c = rw (c.in-None.is, c.of.ensures) c.draw.ensures.draws
