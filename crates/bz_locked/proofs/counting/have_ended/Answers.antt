use Rattle.std.proofs.Common.{◌≡◌, ◌+◌, arith, refl, sym, ap, ◌∙◌, subst, length, get_or}
use Rattle.std.proofs.lemmas.Option.{slice_get_read}
use Rattle.std.proofs.lemmas.List.Elements.{All-more, All-same}
use Rattle.std.proofs.lemmas.List.{take_all}
use Rattle.bz_model.specs.declared.event.Who.TheVariants.{Host}
use Rattle.bz_locked.specs.Journal.{part_of}
use Rattle.bz_locked.specs.Parts.{SessionView}
use Rattle.bz_locked.specs.Closing.{RecordAgrees}
use Rattle.bz_locked.proofs.counting.have_ended.Goals as goal

pub loop-place-preserved : goal.loop-place-preserved
loop-place-preserved c journal have =
    let s = c.index-sessions-place.result in
    let place = c.loop-place.place in
    let own = ap (λ (v : SessionView). v.own) c.session.view_is in
    let who = ap (λ (v : SessionView). v.who) c.session.view_is in
    let number = c.if-number-place.false in
    let here = slice_get_read c.args.sessions.now _ place s refl c.loop-place-test.true c.index-sessions-place.is in
    let met = have place s (omega (arith, number, c.type_inv.met)) here in
    let long : length c.deref-own.result.now ≡ length s.own = ap length (c.deref-own.ensures.value ∙ own) in
    let counted : get_or c.args.met.now (place + 1) 0 ≡ get_or c.args.met.now c.in-Host.number 0 = ap (λ n. get_or c.args.met.now n 0) (sym number) in
    let all : get_or c.args.met.now (place + 1) 0 ≡ length s.own = omega (arith, counted, c.if-met-number.false, long) in
    let whole = take_all (get_or c.args.met.now (place + 1) 0) s.own (omega (arith, all)) in
    let is : RecordAgrees journal s = sym whole ∙ met.0 ∙ ap (λ n. part_of (Host n) journal) (sym number) ∙ ap (λ w. part_of w journal) (sym c.in-Host.is ∙ who) in
    let at = subst (RecordAgrees journal) c.index-sessions-place.is is in
    All-more (RecordAgrees journal) c.args.sessions.now place s c.loop-place-test.true (c.loop-place.invariant journal have) at

pub returns : goal.returns
returns c journal _ have =
    All-same (RecordAgrees journal) _ _ (sym (take_all c.loop-place.place c.args.sessions.now c.loop-place-test.false)) (c.loop-place.invariant journal have)
