use Rattle.std.proofs.Common.{◌∙◌, sym, subst}
use Rattle.bz_locked.specs.Parts.{WorkerView}
use Rattle.bz_locked.specs.Working.{WorkerWasTold}
use Rattle.bz_locked.proofs.Making.{fired_same}
use Rattle.bz_locked.proofs.shared.SharedNet.wait_work.Goals as goal

pub invariant_of-worker : goal.invariant_of-worker
invariant_of-worker g c =
    let inv = c.worker.invariant in
    let then = c.wait_told.ensures in
    (inv.0, inv.1, inv.2, then.owner.0 ∙ inv.3, then.owner.1 ∙ inv.4, inv.5 ∙ sym (fired_same c.worker.inside.who _ _ then.made.own), inv.6 ∙ sym then.made.last, inv.7)

pub returns-clause-told : goal.returns-clause-told
returns-clause-told g c =
    subst (λ (w : WorkerView). WorkerWasTold g.L.NetLedger.terms w.seat.saw c.wait_told.new.owner.seen c.wait_told.result) c.worker.view_is c.wait_told.ensures.told
