use Rattle.bz_net.proofs.Telling.{none_pass, zeros_pass}
use Rattle.bz_net.proofs.here.next_word.Goals as goal

pub returns-then-end-from-clause-passed : goal.returns-then-end-from-clause-passed
returns-then-end-from-clause-passed c p le lt can = none_pass c.args.node.now.comp c.args.node.now.here c.args.from c.next_due.result c.next_due.ensures.passed p le lt can

pub returns-clause-passed : goal.returns-clause-passed
returns-clause-passed c p le lt can =
    zeros_pass c.args.node.now.comp c.args.node.now.here c.args.from c.next_one.result c.waits_to-end.result c.next_one.ensures.within c.waits_to-end.ensures.waits c.next_one.ensures.passed p le lt can
