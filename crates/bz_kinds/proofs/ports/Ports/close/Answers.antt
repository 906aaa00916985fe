use Rattle.std.proofs.Common.{map, ap, ◌∙◌}
use Rattle.bz_kinds.specs.declared.ports.PortState.TheVariants.{OpenDue}
use Rattle.bz_kinds.specs.Ports.{state_of}
use Rattle.bz_kinds.proofs.PortLaws.{port_held, turned_closed}
use Rattle.bz_kinds.proofs.ports.Ports.close.Goals as goal

pub turn-requires : goal.turn-requires
turn-requires c = port_held c.self.inside.numbers c.args.self.now c.self.view_is c.args.port OpenDue c.requires (λ z. cc)

pub returns : goal.returns
returns c = ap (map state_of) c.turn.ensures.turned ∙ turned_closed c.self.inside.numbers c.args.self.now c.self.view_is c.args.port c.requires c.turn.ensures.small
