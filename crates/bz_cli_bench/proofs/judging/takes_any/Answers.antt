use Rattle.std.proofs.Common.{◌∙◌, Some, ap, sym}
use Rattle.bz_cli_bench.proofs.judging.takes_any.Goals as goal

pub returns-in-Any-clause-some : goal.returns-in-Any-clause-some
returns-in-Any-clause-some c = λ yes. (c.args.port, c.in-Some.stream.now, sym c.in-Some.ensures, c.in-Some-forever.is ∙ ap Some c.in-Any.is)
