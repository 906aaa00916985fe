use Rattle.bz_cli_commands.proofs.commands.run.Goals as goal

-- (which of both ways it goes changes nothing: what is counted leaves the status)
pub returns-then-is_none-clause-runs : goal.returns-then-is_none-clause-runs
returns-then-is_none-clause-runs g c = λ within. c.run_watched.ensures.runs

pub returns-clause-runs : goal.returns-clause-runs
returns-clause-runs g c = λ within. rw c.counted.ensures c.run_watched-2.ensures.runs
