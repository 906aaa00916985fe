use Rattle.bz_cli_bench.proofs.Statuses.{all_gravest, all_passed, first_more, first_none}
use Rattle.bz_cli_bench.proofs.status.status_of.Goals as goal

pub loop-case-init : goal.loop-case-init
loop-case-init c = first_none c.args.cases.now

pub loop-case-preserved : goal.loop-case-preserved
loop-case-preserved c =
    first_more c.args.cases.now c.loop-case.case-index c.case-item.result c.loop-case.status c.status.result c.graver-status.result c.loop-case-test.true c.case-item.is c.status.ensures.status
    c.status.ensures.passed c.status.ensures.failed c.graver-status.ensures.one c.graver-status.ensures.none c.graver-status.ensures.graver c.loop-case.invariant

pub returns : goal.returns
returns c = record {
  passed = all_passed c.args.cases.now c.loop-case.case-index c.loop-case.status c.loop-case-test.false c.loop-case.invariant;
  failed = c.loop-case.invariant.failed;
  gravest = all_gravest c.args.cases.now c.loop-case.case-index c.loop-case.status c.loop-case-test.false c.loop-case.invariant;
}
