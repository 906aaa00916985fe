use Rattle.bz_cli_input.specs.Uses.{is_instance_of}
use Rattle.bz_cli_input.proofs.Marked.{marks_more}
use Rattle.bz_cli_input.proofs.uses.mark_used.Goals as goal

pub loop-component-preserved : goal.loop-component-preserved
loop-component-preserved c =
    marks_more (is_instance_of c.args.parts.now) c.args.part.now.components.items c.loop-component.component-index c.component-item.result c.args.used.now c.loop-component.used c.mark_part.new.used (rw c.deref-component-items.ensures.value at c.loop-component-test.true) (rw c.deref-component-items.ensures.value at c.component-item.is) c.loop-component.invariant c.mark_part.ensures
