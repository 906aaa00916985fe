use Rattle.std.proofs.Common.{inl, inr, ◌≡◌, ◌≤◌, ◌∷◌, [], ◌++◌, max, ap, ◌∙◌, subst}
use Rattle.std.specs.Prelude.{IfErr}
use Rattle.bz_past.specs.Owners.{part_of}
use Rattle.bz_past.specs.Standings.{HasTurned}
use Rattle.bz_past.specs.declared.standing.Standing.TheVariants.{Running}
use Rattle.bz_past.specs.declared.view.Moment.{Moment}
use Rattle.bz_locked.specs.Commands.{IsEntryOf}
use Rattle.bz_locked.specs.Working.{WasAdded, WasRefused}
use Rattle.bz_net.specs.Replies.{RefusesCommand}
use Rattle.bz_locked.specs.Parts.{SessionView, Tables}
use Rattle.bz_model.specs.declared.event.NetError.{NetError}
use Rattle.bz_locked.proofs.Seeing.{err_so}
use Rattle.bz_locked.proofs.shared.SharedNet.host.Goals as goal

pub answer-requires : goal.answer-requires
answer-requires g c = (ap (λ (s : SessionView). s.seat.table.past) c.session.view_is ∙ ap (λ (t : Tables). t.past) c.requires, c.session.invariant.1, c.session.invariant.4)

pub returns-in_err-entry-clause-cause : goal.returns-in_err-entry-clause-cause
returns-in_err-entry-clause-cause g c =
    let Refused : Moment → NetError → Type 0 = λ had e. WasRefused g.L.NetLedger.terms had c.answer.new.owner.seen (λ net x. RefusesCommand net c.args.cmd.now.verb c.args.cmd.now.port.items c.args.cmd.now.value x) e in
    subst (λ (v : SessionView). IfErr c.from_residual.result (Refused v.seat.saw)) c.session.view_is (err_so (Refused c.session.inside.owner.seen) c.from_residual.result c.in_err-entry.field-0.0 c.from_residual.ensures.1 (inr c.in_err-entry.ensures.cause))

pub returns-clause-notes : goal.returns-clause-notes
returns-clause-notes g c =
    let t = g.L.NetLedger.terms in
    let seen = ap (λ (s : SessionView). s.seat.seen) c.session.view_is in
    let published = ap (λ (s : SessionView). s.seat.published) c.session.view_is in
    let own = ap (λ (s : SessionView). s.own) c.session.view_is in
    let is_entry = c.in_ok-entry.ensures.entry in
    let added = c.in_ok-entry.ensures.added in
    let made = c.in_ok-entry.ensures.made in
    record {
      entry = c.in_ok-entry.entry;
      len = c.in_ok-entry.len;
      is_entry = subst (λ (s : SessionView). IsEntryOf t.wiring.ports s.who c.args.cmd.now c.in_ok-entry.reply c.in_ok-entry.entry) c.session.view_is is_entry;
      added = subst (λ (s : SessionView). WasAdded t s.seat.saw c.answer.new.owner.seen c.in_ok-entry.entry c.in_ok-entry.len) c.session.view_is added;
      made = subst (λ (s : SessionView). part_of s.who c.answer.new.owner.seen.net.journal ≡ part_of s.who s.seat.saw.net.journal ++ c.in_ok-entry.entry ∷ []) c.session.view_is made.own;
      tells = (c.publish.ensures.seen.0, subst (λ n. n ≤ c.publish.new.seat.seen) seen c.publish.ensures.seen.1, c.publish.ensures.published ∙ ap (λ n. max n c.in_ok-entry.len) published);
      grown = c.push_reserved.ensures.items ∙ ap (λ l. l ++ c.in_ok-entry.entry ∷ []) (c.reserve.ensures.items ∙ own);
    }

pub returns-clause-turned : goal.returns-clause-turned
returns-clause-turned g c = subst (λ (s : SessionView). HasTurned s.who (Running ∷ []) s.seat.saw c.answer.new.owner.seen) c.session.view_is c.in_ok-entry.ensures.turned

pub returns-clause-no_more : goal.returns-clause-no_more
returns-clause-no_more g c = inl (subst (λ (s : SessionView). HasTurned s.who (Running ∷ []) s.seat.saw c.answer.new.owner.seen) c.session.view_is c.in_ok-entry.ensures.turned)

pub returns-in_err-entry-clause-no_more : goal.returns-in_err-entry-clause-no_more
returns-in_err-entry-clause-no_more g c = inl (subst (λ (s : SessionView). HasTurned s.who (Running ∷ []) s.seat.saw c.answer.new.owner.seen) c.session.view_is c.in_err-entry.ensures.turned)
