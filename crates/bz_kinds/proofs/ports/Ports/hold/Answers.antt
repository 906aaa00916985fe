use Rattle.std.proofs.Common.{map, ap, ◌∙◌}
use Rattle.bz_kinds.specs.declared.ports.PortState.TheVariants.{ClosedDue}
use Rattle.bz_kinds.specs.Ports.{state_of}
use Rattle.bz_kinds.proofs.PortLaws.{port_held, flipped_open}
use Rattle.bz_kinds.proofs.ports.Ports.hold.Goals as goal

pub flip-requires : goal.flip-requires
flip-requires c = port_held c.self.inside.numbers c.args.self.now c.self.view_is c.args.port ClosedDue c.requires (λ z. cc)

pub returns : goal.returns
returns c = ap (map state_of) c.flip.ensures ∙ flipped_open c.self.inside.numbers c.args.self.now c.self.view_is c.args.port c.requires
