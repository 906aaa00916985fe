use Rattle.std.proofs.Common.{rules, arith}
use Rattle.bz_sexpr.proofs.Texts.{goes_plain, goes_by_byte, goes_by_escape, closes_at}
use Rattle.bz_sexpr.proofs.bytes.split_quoted.Goals as goal

pub loop-at-init : goal.loop-at-init
loop-at-init c = goes_plain _ _ c.plain_front-at.ensures.within c.plain_front-at.ensures.plain

pub returns-in-34-clause-closed : goal.returns-in-34-clause-closed
returns-in-34-clause-closed c =
    closes_at c.args.bytes.now c.loop-at.at c.loop-at.invariant c.loop-at-test.true _ _ (search rules) (search rules) (search rules)

pub loop-at-preserved-in-92 : goal.loop-at-preserved-in-92
loop-at-preserved-in-92 c =
    goes_by_escape c.args.bytes.now c.loop-at.at c.loop-at.invariant c.loop-at-test.true (search rules) (omega arith)

pub loop-at-preserved : goal.loop-at-preserved
loop-at-preserved c =
    goes_by_byte c.args.bytes.now c.loop-at.at c.loop-at.invariant c.loop-at-test.true (λ e. search rules) (λ e. search rules)
