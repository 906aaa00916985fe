use Rattle.std.proofs.Common.{sym, subst, arith, ◌∙◌}
use Rattle.std.proofs.lemmas.List.{take_all}
use Rattle.std.specs.List.{All}
use Rattle.bz_cli.specs.Pooling.{IsAgreed}
use Rattle.bz_cli.proofs.PoolOutcomes.{agreed_more}
use Rattle.bz_cli.proofs.pooling.first_refused.Goals as goal

pub loop-place-preserved : goal.loop-place-preserved
loop-place-preserved c =
    agreed_more c.args.ends.now c.loop-place.place _ c.loop-place-test.true c.loop-place.invariant (sym c.refusal_of.ensures ∙ c.in_default.is)

pub returns-clause-none : goal.returns-clause-none
returns-clause-none c =
    subst (All IsAgreed) (take_all c.loop-place.place c.args.ends.now (omega (arith, c.loop-place-test.false))) c.loop-place.invariant
