use Rattle.std.proofs.Common.{arith, take}
use Rattle.bz_elab.proofs.Slots.{take_item}
use Rattle.bz_elab.proofs.Items.{ends_push}
use Rattle.bz_elab.proofs.walk.ends_of.Goals as goal

pub loop-place-preserved : goal.loop-place-preserved
loop-place-preserved c =
    let comps = c.args.comps.now in
    let i = c.loop-place.place in
    let comp = c.get.result.now in
    let more = ends_push (take i comps) comp in
    let so_far = c.loop-place.invariant.so_far in
    record {
      so_far = rw (take_item comps i comp (omega arith) (rw c.at.ensures at c.get.ensures)) (omega (arith, more, so_far, c.len-more.ensures));
      few = omega (arith, c.if-more-ends.false);
    }
