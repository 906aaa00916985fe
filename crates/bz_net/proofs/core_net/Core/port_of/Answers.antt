use Rattle.std.proofs.Common.{sym}
use Rattle.bz_net.proofs.Hosts.{port_range}
use Rattle.bz_net.proofs.core_net.Core.port_of.Goals as goal

pub refusal_of-requires-clause-from : goal.refusal_of-requires-clause-from
refusal_of-requires-clause-from c = (port_range c.self.inside.names.ports c.args.name.now c.in-Some.port (sym c.in-Some.ensures)).0

pub refusal_of-requires-clause-to : goal.refusal_of-requires-clause-to
refusal_of-requires-clause-to c = (port_range c.self.inside.names.ports c.args.name.now c.in-Some.port (sym c.in-Some.ensures)).1
