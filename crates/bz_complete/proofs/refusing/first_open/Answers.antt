use Rattle.std.proofs.Common.{refl, ap, ◌∙◌, arith, length}
use Rattle.bz_model.specs.Nets.{Wiring, site_at}
use Rattle.bz_complete.proofs.Refusals.{quiet_all, quiet_more}
use Rattle.bz_complete.proofs.refusing.first_open.Goals as goal

pub loop-place-preserved : goal.loop-place-preserved
loop-place-preserved c = let net = c.args.net.now in quiet_more net.wiring.sites net.state c.args.comp c.loop-place.place c.loop-place.invariant (c.if-is_open.ensures refl)

pub returns : goal.returns
returns c = λ _.
    let net = c.args.net.now in
    let count = c.port_count-place-end.ensures ∙ ap (λ (w : Wiring). length (site_at w.sites c.args.comp).chans) c.core.ensures.wiring in
    let end = c.loop-place-test.false in
    quiet_all net.wiring.sites net.state c.args.comp c.loop-place.place c.port_count-place-end.result count (omega (arith, end)) c.loop-place.invariant
