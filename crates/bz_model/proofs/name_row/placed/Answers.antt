use Rattle.std.proofs.Common.{refl, ap}
use Rattle.bz_model.proofs.NameRows.{placed_more}
use Rattle.bz_model.proofs.name_row.placed.Goals as goal

pub loop-place-preserved : goal.loop-place-preserved
loop-place-preserved c =
    let names = c.args.names.now in
    let place = c.loop-place.place in
    rw c.in_ok-push.ensures.items (placed_more (λ n. n.items) (λ e. (e.0.now, e.1)) names c.loop-place.with_places.items place c.index-names-place.result (c.as_slice.result, place)
    c.loop-place-test.true c.index-names-place.is (ap (λ n. (n, place)) c.as_slice.ensures.value) c.loop-place.invariant)
