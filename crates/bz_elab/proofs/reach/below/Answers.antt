use Rattle.std.proofs.Common.{arith, ap, length}
use Rattle.bz_elab.proofs.Reaching.{spread_start, spread_past, spread_all, read_at, queue_within}
use Rattle.bz_elab.proofs.Soundness.{part_read}
use Rattle.bz_elab.proofs.reach.below.Goals as goal
use Rattle.bz_elab.proofs.reach.below.Goals.{then-place-len+in-Some+in_ok-mark_inner-in-Some, then-place-len+in-None, else-place-len}

pub loop-place-init : goal.loop-place-init
loop-place-init c = spread_start c.args.parts.now c.args.start _ (rw c.list-list.ensures.value at (c.in_ok-marks.ensures.items_if_clones_equal (λ y e. e))) c.in_ok-queue.ensures.items

pub returns : goal.returns
returns c = spread_all c.args.parts.now c.args.start c.loop-place.place _ c.loop-place.invariant (omega (arith, ap length c.list-list.ensures.value))

pub loop-place-preserved : goal.loop-place-preserved
loop-place-preserved c =
    let parts = c.args.parts.now in
    let start = c.args.start in
    let place = c.loop-place.place in
    let so_far = c.loop-place.invariant in
    elim c.if-place-len.branch [
      | then-place-len+in-Some+in_ok-mark_inner-in-Some w ↦
          let at = read_at c.loop-place.reached.queue.items place _ _ (omega (arith, w.if-place-len.true)) w.index-number.ensures in
          let within = queue_within parts start place 0 _ place _ so_far c.requires at in
          rw w.reached-is (w.in_ok-mark_inner-in-Some.ensures start place w.index-number.result.now (part_read parts _ _ _ c.list-list.ensures.value within w.in-Some.ensures.lookup.1) at so_far)
      | then-place-len+in-None w ↦
          let at = read_at c.loop-place.reached.queue.items place _ _ (omega (arith, w.if-place-len.true)) w.index-number.ensures in
          let within = queue_within parts start place 0 _ place _ so_far c.requires at in
          let clash = w.in-None.ensures.lookup.2 (omega (arith, within, ap length c.list-list.ensures.value)) in cc
      | else-place-len w ↦ rw w.reached-is (spread_past parts start place _ so_far (omega (arith, w.if-place-len.false)))
    ]
