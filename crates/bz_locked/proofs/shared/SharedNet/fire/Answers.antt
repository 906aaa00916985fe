use Rattle.std.proofs.Common.{cond, ◌+◌, ◌≤◌, max, ap, ◌∙◌, sym, subst, arith, rules}
use Rattle.std.specs.Prelude.{IfErr}
use Rattle.bz_past.specs.declared.view.Moment.{Moment}
use Rattle.bz_locked.specs.Journal.{firings}
use Rattle.bz_locked.specs.Parts.{WorkerView}
use Rattle.bz_locked.specs.Working.{During, HasFired, RefusesFiring}
use Rattle.bz_locked.specs.declared.locked.FireError.{FireError}
use Rattle.bz_locked.proofs.Making.{fired_push, fired_same, fires_fired}
use Rattle.bz_locked.proofs.Seeing.{err_so}
use Rattle.bz_locked.proofs.shared.SharedNet.fire.Goals as goal

pub returns-clause-lawful : goal.returns-clause-lawful
returns-clause-lawful g c =
    let len = c.in_ok-fired.len in
    let f = c.in_ok-fired.fired in
    let seen = ap (λ (w : WorkerView). w.seat.seen) c.worker.view_is in
    let published = ap (λ (w : WorkerView). w.seat.published) c.worker.view_is in
    let told = c.publish.ensures in (
      len,
      (told.seen.0, subst (λ n. n ≤ c.publish.new.seat.seen) seen told.seen.1, told.published ∙ ap (λ n. max n len) published),
      subst (λ (w : WorkerView). HasFired g.L.NetLedger.terms w.seat.saw c.fire-answered.new.owner.seen w.who c.args.comp f.entry f.wake len) c.worker.view_is c.in_ok-fired.ensures.fired.1,
    )

pub returns-in_err-fired-clause-cause : goal.returns-in_err-fired-clause-cause
returns-in_err-fired-clause-cause g c =
    let Refused : Moment → FireError → Type 0 = λ had e. During g.L.NetLedger.terms had c.fire-answered.new.owner.seen (λ net fuel stopped turns. RefusesFiring net fuel c.args.comp e) in
    subst (λ (v : WorkerView). IfErr c.from_residual.result (Refused v.seat.saw)) c.worker.view_is (err_so (Refused c.worker.inside.owner.seen) c.from_residual.result c.in_err-fired.field-0.0 c.from_residual.ensures.1 c.in_err-fired.ensures.cause)

pub invariant_of-worker : goal.invariant_of-worker
invariant_of-worker g c =
    let inv = c.worker.invariant in
    let then = c.in_err-fired.ensures in
    (search rules, search rules, search rules, then.owner.0 ∙ inv.3, then.owner.1 ∙ inv.4, inv.5 ∙ sym (fired_same c.worker.inside.who _ _ then.made.own), inv.6 ∙ sym then.made.last, inv.7)

pub invariant_of-worker-2 : goal.invariant_of-worker-2
invariant_of-worker-2 g c =
    let inv = c.worker.invariant in
    let then = c.in_ok-fired.ensures in
    let who = c.worker.inside.who in
    let entry = c.in_ok-fired.fired.entry in
    let old = c.worker.inside.owner.seen.net.journal in
    let is = fires_fired who c.args.comp entry then.fired.0 in
    let push = fired_push who old c.fire-answered.new.owner.seen.net.journal entry then.made.own ∙ ap (λ b. firings who old + cond b 1 0) is in
    (search rules, search rules, search rules, then.owner.0 ∙ inv.3, then.owner.1 ∙ inv.4, omega (arith, push, inv.5), omega (arith, c.publish.ensures.published, inv.6, then.made.before, then.made.last), inv.7)
