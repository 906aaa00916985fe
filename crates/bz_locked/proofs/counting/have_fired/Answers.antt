use Rattle.std.proofs.Common.{arith, sym, ap, ◌∙◌, subst}
use Rattle.std.proofs.lemmas.List.Elements.{All-more, All-same}
use Rattle.std.proofs.lemmas.List.{take_all}
use Rattle.bz_locked.specs.Journal.{firings}
use Rattle.bz_locked.specs.Closing.{ShareAgrees}
use Rattle.bz_locked.proofs.counting.have_fired.Goals as goal

pub loop-worker-preserved : goal.loop-worker-preserved
loop-worker-preserved g c journal have =
    let counted = sym c.if-fired-number.false ∙ have c.in-Worker.number (omega (arith, c.type_inv.fired)) ∙ ap (λ w. firings w journal) (sym c.in-Worker.is) in
    let is : ShareAgrees journal c.worker-item.result = rw (← c.worker.view_is) counted in
    let here = subst (ShareAgrees journal) c.worker-item.is is in
    All-more (ShareAgrees journal) c.args.workers.now c.loop-worker.worker-index c.worker-item.result c.loop-worker-test.true (c.loop-worker.invariant journal have) here

pub returns : goal.returns
returns g c journal _ have =
    All-same (ShareAgrees journal) _ _ (sym (take_all c.loop-worker.worker-index c.args.workers.now c.loop-worker-test.false)) (c.loop-worker.invariant journal have)
