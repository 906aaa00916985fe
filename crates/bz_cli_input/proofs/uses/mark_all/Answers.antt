use Rattle.bz_cli_input.proofs.Users.{marks_all, marks_next}
use Rattle.bz_cli_input.proofs.uses.mark_all.Goals as goal

pub loop-user-preserved : goal.loop-user-preserved
loop-user-preserved c =
    marks_next c.args.parts.now c.loop-user.user c.part-item.result c.args.used.now c.loop-user.used c.mark_others.new.used (rw c.list-part-items.ensures.value at c.loop-user-test.true) (rw c.list-part-items.ensures.value at c.part-item.is) c.loop-user.invariant c.mark_others.ensures

pub returns : goal.returns
returns c = marks_all c.args.parts.now c.loop-user.user c.args.used.now c.loop-user.used (rw c.list-part-items.ensures.value at c.loop-user-test.false) c.loop-user.invariant
