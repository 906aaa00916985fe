use Rattle.std.proofs.Common.{◌∙◌, ap, set}
use Rattle.bz_kinds.proofs.PortLaws.{state_set}
use Rattle.bz_kinds.proofs.ports.Ports.set.Goals as goal

pub returns : goal.returns
returns c = rw c.set.ensures (state_set c.self.inside.numbers c.args.port c.number.result c.args.state c.number.ensures.stands ∙ ap (λ w. set w c.args.port c.args.state) c.self.view_is)
