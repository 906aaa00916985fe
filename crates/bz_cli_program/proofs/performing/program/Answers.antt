use Rattle.bz_cli_program.proofs.performing.program.Goals as goal

pub returns-in-Run-clause-does : goal.returns-in-Run-clause-does
returns-in-Run-clause-does g c = rw c.in-Run.is (c.run.ensures.refused, c.run.ensures.runs)

pub returns-in-Explore-clause-does : goal.returns-in-Explore-clause-does
returns-in-Explore-clause-does g c = rw c.in-Explore.is tt

pub returns-in-Check-clause-does : goal.returns-in-Check-clause-does
returns-in-Check-clause-does g c = rw c.in-Check.is (c.check_all.ensures.one, c.check_all.ensures.several)

pub returns-in-Complete-clause-does : goal.returns-in-Complete-clause-does
returns-in-Complete-clause-does g c = rw (c.in-Complete.is, c.of.ensures) c.complete.ensures.completes

pub returns-in-Waits-clause-does : goal.returns-in-Waits-clause-does
returns-in-Waits-clause-does g c = rw c.in-Waits.is c.make_waits.ensures.makes

pub returns-in-List-clause-does : goal.returns-in-List-clause-does
returns-in-List-clause-does g c = rw (c.in-List.is, c.of-in-List.ensures) (c.list.ensures.plainly, c.list.ensures.places)

pub returns-in-Lint-clause-does : goal.returns-in-Lint-clause-does
returns-in-Lint-clause-does g c = rw c.in-Lint.is tt

pub returns-in-Parts-clause-does : goal.returns-in-Parts-clause-does
returns-in-Parts-clause-does g c = rw (c.in-Parts.is, c.of-in-Parts.ensures) c.parts.ensures.parts

pub returns-in-Kinds-clause-does : goal.returns-in-Kinds-clause-does
returns-in-Kinds-clause-does g c = rw (c.in-Kinds.is, c.of-in-Kinds.ensures) c.kinds.ensures.kinds

pub returns-in-Draw-clause-does : goal.returns-in-Draw-clause-does
returns-in-Draw-clause-does g c = rw c.in-Draw.is c.draw_all.ensures.draws

pub returns-in-Chart-clause-does : goal.returns-in-Chart-clause-does
returns-in-Chart-clause-does g c = rw c.in-Chart.is c.make.ensures.makes

pub returns-in-Page-clause-does : goal.returns-in-Page-clause-does
returns-in-Page-clause-does g c = rw c.in-Page.is c.make-in-Page.ensures.makes

pub returns-in-Pool-clause-does : goal.returns-in-Pool-clause-does
returns-in-Pool-clause-does g c = rw c.in-Pool.is (c.pool.ensures.refused, c.pool.ensures.pools)

pub returns-in-Test-clause-does : goal.returns-in-Test-clause-does
returns-in-Test-clause-does g c = rw (c.in-Test.is, c.of-in-Test.ensures) c.test.ensures.tests
