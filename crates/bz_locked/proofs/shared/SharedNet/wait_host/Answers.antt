use Rattle.std.proofs.Common.{inl, inr, ◌≡◌, ◌≤◌, ◌∷◌, [], ◌++◌, max, ap, ◌∙◌, subst}
use Rattle.std.specs.Prelude.{IfErr}
use Rattle.bz_past.specs.Owners.{part_of}
use Rattle.bz_past.specs.declared.view.Moment.{Moment}
use Rattle.bz_locked.specs.Commands.{IsEntryOf, RefusesPoll}
use Rattle.bz_locked.specs.Working.{HasWaited, IsLast, WasAdded, WasRefused, WasTold}
use Rattle.bz_locked.specs.Making.{MadeTold}
use Rattle.bz_locked.specs.declared.locked.Work.TheVariants as work
use Rattle.bz_locked.specs.Parts.{SessionView, Tables}
use Rattle.bz_model.specs.declared.event.NetError.{NetError}
use Rattle.bz_locked.proofs.Seeing.{err_so}
use Rattle.bz_locked.proofs.shared.SharedNet.wait_host.Goals as goal

pub wait_for-requires : goal.wait_for-requires
wait_for-requires g c = (ap (λ (s : SessionView). s.seat.table.past) c.session.view_is ∙ ap (λ (t : Tables). t.past) c.requires, c.session.invariant.1, c.session.invariant.4)

pub returns-in_err-entry-clause-cause : goal.returns-in_err-entry-clause-cause
returns-in_err-entry-clause-cause g c =
    let Refused : Moment → NetError → Type 0 = λ had e. WasRefused g.L.NetLedger.terms had c.wait_for.new.owner.seen (λ net x. RefusesPoll net c.args.cmd.now x) e in
    subst (λ (v : SessionView). IfErr c.from_residual.result (Refused v.seat.saw)) c.session.view_is (err_so (Refused c.session.inside.owner.seen) c.from_residual.result c.in_err-entry.field-0.0 c.from_residual.ensures.1 (inr c.in_err-entry.ensures.cause))

pub returns-in-Answered-clause-answered : goal.returns-in-Answered-clause-answered
returns-in-Answered-clause-answered g c =
    let t = g.L.NetLedger.terms in
    let seen = ap (λ (s : SessionView). s.seat.seen) c.session.view_is in
    let published = ap (λ (s : SessionView). s.seat.published) c.session.view_is in
    let own = ap (λ (s : SessionView). s.own) c.session.view_is in
    let last = subst (λ p. IsLast t c.session.inside.owner.seen c.wait_for.new.owner.seen c.session.inside.who c.args.cmd.now p) c.in-Answered.is c.in_ok-entry.ensures.last in
    let made = subst (λ p. MadeTold c.session.inside.who p c.session.inside.owner.seen c.wait_for.new.owner.seen) c.in-Answered.is c.in_ok-entry.ensures.made in
    let is_entry = last.1 in
    let added = last.2 in (
      last.0,
      record {
        entry = c.in-Answered.entry;
        len = c.in-Answered.len;
        is_entry = subst (λ (s : SessionView). IsEntryOf t.wiring.ports s.who c.args.cmd.now c.in-Answered.reply c.in-Answered.entry) c.session.view_is is_entry;
        added = subst (λ (s : SessionView). WasAdded t s.seat.saw c.wait_for.new.owner.seen c.in-Answered.entry c.in-Answered.len) c.session.view_is added;
        made = subst (λ (s : SessionView). part_of s.who c.wait_for.new.owner.seen.net.journal ≡ part_of s.who s.seat.saw.net.journal ++ c.in-Answered.entry ∷ []) c.session.view_is made.own;
        tells = (c.publish.ensures.seen.0, subst (λ n. n ≤ c.publish.new.seat.seen) seen c.publish.ensures.seen.1, c.publish.ensures.published ∙ ap (λ n. max n c.in-Answered.len) published);
        grown = c.push_reserved.ensures.items ∙ ap (λ l. l ++ c.in-Answered.entry ∷ []) (c.reserve.ensures.items ∙ own);
      },
    )

pub returns-in-Stopped-clause-answered : goal.returns-in-Stopped-clause-answered
returns-in-Stopped-clause-answered g c =
    let t = g.L.NetLedger.terms in
    let seen = ap (λ (s : SessionView). s.seat.seen) c.session.view_is in
    let published = ap (λ (s : SessionView). s.seat.published) c.session.view_is in
    let own = ap (λ (s : SessionView). s.own) c.session.view_is in
    let parts = ap (λ (s : SessionView). s.seat.parts) c.session.view_is in
    let last = subst (λ p. IsLast t c.session.inside.owner.seen c.wait_for.new.owner.seen c.session.inside.who c.args.cmd.now p) c.in-Stopped.is c.in_ok-entry.ensures.last in
    let made = subst (λ p. MadeTold c.session.inside.who p c.session.inside.owner.seen c.wait_for.new.owner.seen) c.in-Stopped.is c.in_ok-entry.ensures.made in (
      subst (λ (s : SessionView). WasTold t s.seat.saw c.wait_for.new.owner.seen s.who c.args.cmd.now work.Stopped) c.session.view_is last,
      (c.reserve.ensures.items ∙ own, (seen, published, parts), subst (λ (s : SessionView). part_of s.who c.wait_for.new.owner.seen.net.journal ≡ part_of s.who s.seat.saw.net.journal) c.session.view_is made.own),
    )

pub returns-in-Resting-clause-answered : goal.returns-in-Resting-clause-answered
returns-in-Resting-clause-answered g c =
    let t = g.L.NetLedger.terms in
    let seen = ap (λ (s : SessionView). s.seat.seen) c.session.view_is in
    let published = ap (λ (s : SessionView). s.seat.published) c.session.view_is in
    let own = ap (λ (s : SessionView). s.own) c.session.view_is in
    let parts = ap (λ (s : SessionView). s.seat.parts) c.session.view_is in
    let last = subst (λ p. IsLast t c.session.inside.owner.seen c.wait_for.new.owner.seen c.session.inside.who c.args.cmd.now p) c.in-Resting.is c.in_ok-entry.ensures.last in
    let made = subst (λ p. MadeTold c.session.inside.who p c.session.inside.owner.seen c.wait_for.new.owner.seen) c.in-Resting.is c.in_ok-entry.ensures.made in (
      subst (λ (s : SessionView). WasTold t s.seat.saw c.wait_for.new.owner.seen s.who c.args.cmd.now work.Resting) c.session.view_is last,
      (c.reserve.ensures.items ∙ own, (seen, published, parts), subst (λ (s : SessionView). part_of s.who c.wait_for.new.owner.seen.net.journal ≡ part_of s.who s.seat.saw.net.journal) c.session.view_is made.own),
    )

pub returns-in-Spent-clause-answered : goal.returns-in-Spent-clause-answered
returns-in-Spent-clause-answered g c =
    let t = g.L.NetLedger.terms in
    let seen = ap (λ (s : SessionView). s.seat.seen) c.session.view_is in
    let published = ap (λ (s : SessionView). s.seat.published) c.session.view_is in
    let own = ap (λ (s : SessionView). s.own) c.session.view_is in
    let parts = ap (λ (s : SessionView). s.seat.parts) c.session.view_is in
    let last = subst (λ p. IsLast t c.session.inside.owner.seen c.wait_for.new.owner.seen c.session.inside.who c.args.cmd.now p) c.in-Spent.is c.in_ok-entry.ensures.last in
    let made = subst (λ p. MadeTold c.session.inside.who p c.session.inside.owner.seen c.wait_for.new.owner.seen) c.in-Spent.is c.in_ok-entry.ensures.made in (
      subst (λ (s : SessionView). WasTold t s.seat.saw c.wait_for.new.owner.seen s.who c.args.cmd.now work.Spent) c.session.view_is last,
      (c.reserve.ensures.items ∙ own, (seen, published, parts), subst (λ (s : SessionView). part_of s.who c.wait_for.new.owner.seen.net.journal ≡ part_of s.who s.seat.saw.net.journal) c.session.view_is made.own),
    )

pub returns-in-Answered-clause-turned : goal.returns-in-Answered-clause-turned
returns-in-Answered-clause-turned g c = subst (λ (s : SessionView). HasWaited g.L.NetLedger.terms.wiring s.who c.args.cmd.now s.seat.saw c.wait_for.new.owner.seen) c.session.view_is c.in_ok-entry.ensures.turned

pub returns-in-Answered-clause-no_more : goal.returns-in-Answered-clause-no_more
returns-in-Answered-clause-no_more g c = inl (subst (λ (s : SessionView). HasWaited g.L.NetLedger.terms.wiring s.who c.args.cmd.now s.seat.saw c.wait_for.new.owner.seen) c.session.view_is c.in_ok-entry.ensures.turned)

pub returns-in-Stopped-clause-turned : goal.returns-in-Stopped-clause-turned
returns-in-Stopped-clause-turned g c = subst (λ (s : SessionView). HasWaited g.L.NetLedger.terms.wiring s.who c.args.cmd.now s.seat.saw c.wait_for.new.owner.seen) c.session.view_is c.in_ok-entry.ensures.turned

pub returns-in-Stopped-clause-no_more : goal.returns-in-Stopped-clause-no_more
returns-in-Stopped-clause-no_more g c = inl (subst (λ (s : SessionView). HasWaited g.L.NetLedger.terms.wiring s.who c.args.cmd.now s.seat.saw c.wait_for.new.owner.seen) c.session.view_is c.in_ok-entry.ensures.turned)

pub returns-in-Resting-clause-turned : goal.returns-in-Resting-clause-turned
returns-in-Resting-clause-turned g c = subst (λ (s : SessionView). HasWaited g.L.NetLedger.terms.wiring s.who c.args.cmd.now s.seat.saw c.wait_for.new.owner.seen) c.session.view_is c.in_ok-entry.ensures.turned

pub returns-in-Resting-clause-no_more : goal.returns-in-Resting-clause-no_more
returns-in-Resting-clause-no_more g c = inl (subst (λ (s : SessionView). HasWaited g.L.NetLedger.terms.wiring s.who c.args.cmd.now s.seat.saw c.wait_for.new.owner.seen) c.session.view_is c.in_ok-entry.ensures.turned)

pub returns-in-Spent-clause-turned : goal.returns-in-Spent-clause-turned
returns-in-Spent-clause-turned g c = subst (λ (s : SessionView). HasWaited g.L.NetLedger.terms.wiring s.who c.args.cmd.now s.seat.saw c.wait_for.new.owner.seen) c.session.view_is c.in_ok-entry.ensures.turned

pub returns-in-Spent-clause-no_more : goal.returns-in-Spent-clause-no_more
returns-in-Spent-clause-no_more g c = inl (subst (λ (s : SessionView). HasWaited g.L.NetLedger.terms.wiring s.who c.args.cmd.now s.seat.saw c.wait_for.new.owner.seen) c.session.view_is c.in_ok-entry.ensures.turned)

pub returns-in_err-entry-clause-no_more : goal.returns-in_err-entry-clause-no_more
returns-in_err-entry-clause-no_more g c = inl (subst (λ (s : SessionView). HasWaited g.L.NetLedger.terms.wiring s.who c.args.cmd.now s.seat.saw c.wait_for.new.owner.seen) c.session.view_is c.in_err-entry.ensures.turned)
