use Rattle.std.proofs.Common.{subst}
use Rattle.bz_model.specs.Nets.{outside}
use Rattle.bz_model.specs.Entries.{HasLine}
use Rattle.bz_net.proofs.Hosts.{port_range}
use Rattle.bz_trace.proofs.following.follow.Goals as goal

pub follow_firing-requires-clause-has_line : goal.follow_firing-requires-clause-has_line
follow_firing-requires-clause-has_line c = subst (HasLine (outside c.args.net.now.wiring)) c.in-Fired.is c.requires.has_line

pub follow_command-requires-clause-from : goal.follow_command-requires-clause-from
follow_command-requires-clause-from c =
    let has = subst (HasLine (outside c.args.net.now.wiring)) c.in-Host.is c.requires.has_line in
    (port_range c.args.net.now.wiring.ports _ c.in-Host.port has.1).0

pub follow_command-requires-clause-to : goal.follow_command-requires-clause-to
follow_command-requires-clause-to c =
    let has = subst (HasLine (outside c.args.net.now.wiring)) c.in-Host.is c.requires.has_line in
    (port_range c.args.net.now.wiring.ports _ c.in-Host.port has.1).1
