use Rattle.bz_cli_trace.proofs.telling.put_verdict.Goals as goal

pub returns-in-Bad : goal.returns-in-Bad
returns-in-Bad g c = rw c.in-Bad.is c.put_line-in-Bad.ensures
