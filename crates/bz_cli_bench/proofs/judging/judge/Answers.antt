use Rattle.std.proofs.Common.{List, subst}
use Rattle.bz_bench.specs.declared.stream.Stream.{Stream}
use Rattle.bz_cli_bench.specs.Verdicts.{Judges}
use Rattle.bz_cli_bench.proofs.judging.judge.Goals as goal

pub returns : goal.returns
returns c =
    let n = c.args.net.now in
    subst (λ (streams : List Stream). Judges n.wiring n.state n.journal streams c.args.plan.now.spins c.judge_by.result) c.as_slice-streams.ensures.value c.judge_by.ensures
