use Rattle.std.proofs.Common.{◌≡◌, ◌∙◌, ap, arith}
use Rattle.bz_flat.specs.Flats.{site_of}
use Rattle.bz_model.proofs.Copies.{copied_more}
use Rattle.bz_flat.proofs.flat.dup_comps.Goals as goal

pub loop-place-preserved : goal.loop-place-preserved
loop-place-preserved c =
    let comp = c.get-comp.result.now in
    let kind = c.in_ok-kind.ensures in
    let chans = c.in_ok-chans.ensures in
    let same : site_of (record { kind = c.in_ok-kind.kind; sizes = comp.sizes; chans = c.in_ok-chans.chans }) ≡ site_of comp = ap (λ k. record { kind = k; sizes = comp.sizes; chans = c.in_ok-chans.chans.items }) kind ∙ ap (λ l. record { kind = comp.kind; sizes = comp.sizes; chans = l }) chans in
    rw c.in-Ok.ensures.appended (copied_more site_of c.args.comps.now c.loop-place.same c.loop-place.place _ comp (omega arith) (rw c.at.ensures at c.get-comp.ensures) same c.loop-place.invariant)
