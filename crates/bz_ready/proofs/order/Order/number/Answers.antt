use Rattle.std.proofs.Common.{subst}
use Rattle.bz_ready.specs.Order.{IsEach}
use Rattle.bz_ready.proofs.Orders.{each_of}
use Rattle.bz_ready.proofs.order.Order.number.Goals as goal

pub returns-clause-each : goal.returns-clause-each
returns-clause-each g c = subst IsEach c.self.view_is (each_of _ c.self.inside.places c.self.invariant)
