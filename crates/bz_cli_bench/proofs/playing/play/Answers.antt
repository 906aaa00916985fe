use Rattle.std.proofs.Common.{◌∙◌, IfOk, subst}
use Rattle.bz_model.specs.Nets.{Wiring}
use Rattle.bz_cli_bench.specs.Verdicts.{Judges}
use Rattle.bz_cli_bench.specs.declared.plan.Plan.{Plan}
use Rattle.bz_cli_bench.proofs.playing.play.Goals as goal

pub returns-clause-judged : goal.returns-clause-judged
returns-clause-judged c =
    let wiring = c.in_ok-play_all.ensures.wiring ∙ c.in_ok-session.ensures.wiring in
    let plan = c.in_ok-play_all.ensures.plan ∙ c.in_ok-session.ensures.plan in
    subst (λ (w : Wiring). IfOk c.judged.result (λ p. Judges w p.stepping.net.state p.stepping.net.journal c.args.plan.now.streams.items c.args.plan.now.spins p.verdict)) wiring
    (subst (λ (l : Plan). IfOk c.judged.result (λ p. Judges c.play_all.new.self.stepping.net.wiring p.stepping.net.state p.stepping.net.journal l.streams.items l.spins p.verdict)) plan c.judged.ensures.judged)
