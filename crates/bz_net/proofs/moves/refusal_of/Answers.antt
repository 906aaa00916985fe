use Rattle.std.proofs.Common.{sym}
use Rattle.bz_net.proofs.Hosts.{refused_at}
use Rattle.bz_net.proofs.moves.refusal_of.Goals as goal

pub returns : goal.returns
returns c =
    refused_at c.args.names.now.ports c.args.names.now.chans c.args.verb c.args.port c.args.value c.in-Some-Some.passive c.in-Some-Some.chan c.refusal.result
    (sym c.in-Some-Some.ensures) (sym c.in-Some-Some.ensures') c.refusal.ensures
