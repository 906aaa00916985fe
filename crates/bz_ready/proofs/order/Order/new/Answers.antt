use Rattle.bz_ready.proofs.Orders.{order_new, each_of}
use Rattle.bz_ready.proofs.order.Order.new.Goals as goal

pub invariant_of-result : goal.invariant_of-result
invariant_of-result g c = order_new c.args.limit _ _ c.ranges.limit.fits c.in_ok-numbers.ensures c.in_ok-places.ensures

pub returns-clause-each : goal.returns-clause-each
returns-clause-each g c = each_of _ c.in_ok-places.places (order_new c.args.limit _ _ c.ranges.limit.fits c.in_ok-numbers.ensures c.in_ok-places.ensures)
