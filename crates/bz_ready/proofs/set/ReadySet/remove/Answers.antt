use Rattle.std.proofs.Common.{◌<◌, length, sym, ap, arith, subst}
use Rattle.bz_ready.specs.Order.{IsEach}
use Rattle.bz_ready.proofs.Sets.{removed}
use Rattle.bz_ready.proofs.set.ReadySet.remove.Goals as goal

pub invariant_of-self : goal.invariant_of-self
invariant_of-self g c =
    let o = c.self.inside.order in let place = c.place-place.result in
    let held : c.args.number < length c.self.inside.row = omega (arith, ap (λ m. length m.row) c.self.view_is, c.requires) in
    let each = subst IsEach c.swap.ensures.order c.swap.ensures.each in
    rw (c.swap.ensures.order, c.set.ensures)
    (removed o c.self.inside.len c.self.inside.row c.self.invariant c.args.number place held c.place-place.ensures.held c.place-place.ensures.value (sym c.if-get.ensures) each)
