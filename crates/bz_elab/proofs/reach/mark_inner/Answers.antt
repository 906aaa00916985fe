use Rattle.std.proofs.Common.{arith, length, sym, ◌∙◌, ap, suc, add-one}
use Rattle.bz_elab.proofs.Growing.{component_at}
use Rattle.bz_elab.proofs.Reaching.{spread_none, spread_some, spread_next, queue_kept, inner_is}
use Rattle.bz_elab.proofs.reach.mark_inner.Goals as goal
use Rattle.bz_elab.proofs.reach.mark_inner.Goals.{in-Some+in_ok-mark, in_default}

pub loop-component-preserved : goal.loop-component-preserved
loop-component-preserved c =
    let parts = c.args.parts.now in
    let i = c.loop-component.component-index in
    let x = c.component-item.result in
    let inv = c.loop-component.invariant in
    let has = component_at c.args.part.now c.deref-component-items.result.now i x c.deref-component-items.ensures.value c.component-item.is (omega arith) in
    let named = rw c.as_slice.ensures.value at c.find.ensures.number in
    elim c.match-find.branch [
      | in-Some+in_ok-mark w ↦
          let found = rw c.as_slice.ensures.value at w.in-Some.ensures.number in
          let marked = w.in_ok-mark.ensures in
          rw w.reached-is (record {
            len = marked.len ∙ inv.len;
            spread = λ start head n part_is at s.
                let (so_far, here) = inv.spread start head n part_is at s in (
                  rw add-one (spread_some parts start head i n w.in-Some.inner _ _ so_far here (inner_is parts n (suc i) c.args.part.now x part_is has ∙ sym found) marked),
                  queue_kept _ _ w.in-Some.inner head n marked here,
                );
          })
      | in_default w ↦
          rw w.reached-is (record {
            len = inv.len;
            spread = λ start head n part_is at s.
                let (so_far, here) = inv.spread start head n part_is at s in
                (rw add-one (spread_none parts start head i n _ so_far here (inner_is parts n (suc i) c.args.part.now x part_is has ∙ sym (rw c.as_slice.ensures.value at w.in_default.ensures.number))), here);
          })
    ]

pub returns : goal.returns
returns c start head n part_is at s =
    let (all, here) = c.loop-component.invariant.spread start head n part_is at s in
    spread_next c.args.parts.now start head c.loop-component.component-index n c.args.part.now _ all here part_is (omega (arith, ap length c.deref-component-items.ensures.value))
