use Rattle.bz_source.proofs.Walking.{mark_here}
use Rattle.bz_source.proofs.bare.mark_one.Goals as goal

pub returns-then-nothing : goal.returns-then-nothing
returns-then-nothing c =
    mark_here c.args.parts.now c.args.inner.now c.args.bare.now c.args.number c.index-parts-number.result c.index-inner-number.result c.requires.inner c.requires.bare c.requires.number c.index-parts-number.is c.index-inner-number.is
    (rw c.as_slice.ensures.value at c.if-nothing.ensures)
