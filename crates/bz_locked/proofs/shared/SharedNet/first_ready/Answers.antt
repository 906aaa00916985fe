use Rattle.std.proofs.Common.{◌≤◌, max, ap, ◌∙◌, sym, subst, arith, rules}
use Rattle.std.specs.Prelude.{IfErr}
use Rattle.bz_model.specs.declared.event.Entry.TheVariants.{Rested}
use Rattle.bz_net.specs.declared.event.RestReply.{RestReply}
use Rattle.bz_net.specs.declared.event.RestReply.TheVariants as rest
use Rattle.bz_past.specs.declared.view.Moment.{Moment}
use Rattle.bz_locked.specs.Making.{MadeNone, MadeOne}
use Rattle.bz_locked.specs.Parts.{WorkerView}
use Rattle.bz_locked.specs.Working.{During, MatchRest, RefusesRest, WasFirst}
use Rattle.bz_model.specs.declared.event.NetError.{NetError}
use Rattle.bz_locked.proofs.Making.{fired_push, fired_same}
use Rattle.bz_locked.proofs.Seeing.{err_so}
use Rattle.bz_locked.proofs.shared.SharedNet.first_ready.Goals as goal

pub returns-in-Ready-clause-told : goal.returns-in-Ready-clause-told
returns-in-Ready-clause-told g c =
    let First : RestReply → Type 0 = λ r. WasFirst g.L.NetLedger.terms c.worker.inside.owner.seen c.first_ready-answered.new.owner.seen c.worker.inside.who c.args.from r c.in_ok-reply.len in (
      c.in_ok-reply.len,
      (ap (λ (w : WorkerView). w.seat.seen) c.worker.view_is, ap (λ (w : WorkerView). w.seat.published) c.worker.view_is, ap (λ (w : WorkerView). w.seat.parts) c.worker.view_is),
      subst (λ (w : WorkerView). WasFirst g.L.NetLedger.terms w.seat.saw c.first_ready-answered.new.owner.seen w.who c.args.from (rest.Ready c.in-Ready.comp) c.in_ok-reply.len) c.worker.view_is (subst First c.in-Ready.is c.in_ok-reply.ensures.told),
    )

pub returns-in-Rest-clause-told : goal.returns-in-Rest-clause-told
returns-in-Rest-clause-told g c =
    let len = c.in_ok-reply.len in
    let seen = ap (λ (w : WorkerView). w.seat.seen) c.worker.view_is in
    let published = ap (λ (w : WorkerView). w.seat.published) c.worker.view_is in
    let told = c.publish.ensures in
    let First : RestReply → Type 0 = λ r. WasFirst g.L.NetLedger.terms c.worker.inside.owner.seen c.first_ready-answered.new.owner.seen c.worker.inside.who c.args.from r len in (
      len,
      (told.seen.0, subst (λ n. n ≤ c.publish.new.seat.seen) seen told.seen.1, told.published ∙ ap (λ n. max n len) published),
      subst (λ (w : WorkerView). WasFirst g.L.NetLedger.terms w.seat.saw c.first_ready-answered.new.owner.seen w.who c.args.from rest.Rest len) c.worker.view_is (subst First c.in-Rest.is c.in_ok-reply.ensures.told),
    )

pub returns-in_err-reply-clause-cause : goal.returns-in_err-reply-clause-cause
returns-in_err-reply-clause-cause g c =
    let Refused : Moment → NetError → Type 0 = λ had e. During g.L.NetLedger.terms had c.first_ready-answered.new.owner.seen (λ net fuel stopped turns. RefusesRest net e) in
    subst (λ (v : WorkerView). IfErr c.from_residual.result (Refused v.seat.saw)) c.worker.view_is (err_so (Refused c.worker.inside.owner.seen) c.from_residual.result c.in_err-reply.field-0.0 c.from_residual.ensures.1 c.in_err-reply.ensures.cause)

pub invariant_of-worker : goal.invariant_of-worker
invariant_of-worker g c =
    let inv = c.worker.invariant in
    let then = c.in_err-reply.ensures in
    (search rules, search rules, search rules, then.owner.0 ∙ inv.3, then.owner.1 ∙ inv.4, inv.5 ∙ sym (fired_same c.worker.inside.who _ _ then.made.own), inv.6 ∙ sym then.made.last, inv.7)

pub invariant_of-worker-in-Rest : goal.invariant_of-worker-in-Rest
invariant_of-worker-in-Rest g c =
    let inv = c.worker.invariant in
    let then = c.in_ok-reply.ensures in
    let who = c.worker.inside.who in
    let a = c.worker.inside.owner.seen in
    let b = c.first_ready-answered.new.owner.seen in
    let made = subst (λ r. MatchRest r (MadeOne who (Rested who) c.in_ok-reply.len a b) (MadeNone who a b)) c.in-Rest.is then.made in
    let push = fired_push who a.net.journal b.net.journal (Rested who) made.own in
    (search rules, search rules, search rules, then.owner.0 ∙ inv.3, then.owner.1 ∙ inv.4, omega (arith, push, inv.5), omega (arith, c.publish.ensures.published, inv.6, made.before, made.last), inv.7)

pub invariant_of-worker-in-Ready : goal.invariant_of-worker-in-Ready
invariant_of-worker-in-Ready g c =
    let inv = c.worker.invariant in
    let then = c.in_ok-reply.ensures in
    let who = c.worker.inside.who in
    let a = c.worker.inside.owner.seen in
    let b = c.first_ready-answered.new.owner.seen in
    let made = subst (λ r. MatchRest r (MadeOne who (Rested who) c.in_ok-reply.len a b) (MadeNone who a b)) c.in-Ready.is then.made in
    (search rules, search rules, search rules, then.owner.0 ∙ inv.3, then.owner.1 ∙ inv.4, inv.5 ∙ sym (fired_same who a.net.journal b.net.journal made.own), inv.6 ∙ sym made.last, inv.7)
