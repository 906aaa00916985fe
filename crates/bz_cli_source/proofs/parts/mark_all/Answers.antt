use Rattle.bz_cli_input.proofs.Marked.{marks_more}
use Rattle.bz_cli_input.specs.Uses.{has_instance_of}
use Rattle.bz_cli_source.proofs.parts.mark_all.Goals as goal

pub loop-part-preserved : goal.loop-part-preserved
loop-part-preserved c =
    marks_more (has_instance_of c.args.parts.now) c.args.parts.now c.loop-part.part-index c.part-item.result c.args.used.now c.loop-part.used c.mark_used.new.used (rw c.list-part-items.ensures.value at c.loop-part-test.true) (rw c.list-part-items.ensures.value at c.part-item.is) c.loop-part.invariant c.mark_used.ensures
