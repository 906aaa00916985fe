use Rattle.std.proofs.Common.{◌≡◌, ◌+◌, arith, refl, sym, ap, ◌∙◌, subst, List, get_or, slice_get, Some}
use Rattle.bz_model.specs.declared.event.Entry.{Entry}
use Rattle.bz_locked.specs.Parts.{SessionView}
use Rattle.std.proofs.lemmas.Option.{slice_get_read}
use Rattle.bz_locked.proofs.Counted.{met_still, met_next, no_host, not_host}
use Rattle.bz_locked.proofs.counting.goes_on.Goals as goal

pub returns-in_default : goal.returns-in_default
returns-in_default c _ read have =
    met_still c.args.sessions.now read c.args.met.now c.args.entry.now (λ k within. no_host c.args.entry.now c.in_default.field-0 (k + 1) (sym c.who_of.ensures ∙ c.in_default.is)) have

pub returns-then-number-eq0 : goal.returns-then-number-eq0
returns-then-number-eq0 c _ read have =
    met_still c.args.sessions.now read c.args.met.now c.args.entry.now
    (λ k within. not_host c.args.entry.now c.in-Host.number (k + 1) (sym c.who_of.ensures ∙ c.in-Host.is) (λ same. absurd (omega (arith, same, c.if-number-eq0.true)))) have

pub returns-then-number-sessions : goal.returns-then-number-sessions
returns-then-number-sessions c _ read have =
    met_still c.args.sessions.now read c.args.met.now c.args.entry.now
    (λ k within. not_host c.args.entry.now c.in-Host.number (k + 1) (sym c.who_of.ensures ∙ c.in-Host.is) (λ same. absurd (omega (arith, same, within, c.if-number-sessions.true)))) have

pub returns : goal.returns
returns c _ read have =
    let own = ap (λ (s : SessionView). s.own) c.session.view_is in
    let here = slice_get_read c.args.sessions.now _ _ c.index-sessions-number.result refl (omega (arith, c.if-number-eq0.false, c.if-number-sessions.false)) c.index-sessions-number.is in
    let has = c.is_at.ensures.0 c.if-not-is_at.false in
    let at = get_or c.args.met.now c.in-Host.number 0 in
    let has2 : slice_get c.index-sessions-number.result.own at ≡ Some c.args.entry.now = subst (λ (l : List Entry). slice_get l at ≡ Some c.args.entry.now) (c.deref.ensures.value ∙ own) has in
    met_next c.args.sessions.now read c.args.met.now c.args.entry.now c.in-Host.number c.index-sessions-number.result (omega (arith, c.if-number-eq0.false)) (sym c.who_of.ensures ∙ c.in-Host.is) here (omega arith) has2 have
