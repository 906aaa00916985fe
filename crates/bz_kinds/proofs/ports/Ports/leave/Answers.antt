use Rattle.std.proofs.Common.{map, ap, ◌-◌, get_or, ◌∙◌}
use Rattle.bz_kinds.specs.declared.ports.PortState.TheVariants.{Closed, Open, OpenDue}
use Rattle.bz_kinds.specs.Ports.{state_of}
use Rattle.bz_kinds.proofs.PortLaws.{port_held, other_port, flipped_closed, passed_open, even_open}
use Rattle.bz_kinds.proofs.ports.Ports.leave.Goals as goal

pub pass-requires : goal.pass-requires
pass-requires c = record {
  from = port_held c.self.inside.numbers c.args.self.now c.self.view_is c.args.last OpenDue c.requires.last (λ z. cc);
  to = port_held c.self.inside.numbers c.args.self.now c.self.view_is c.args.port Open c.requires.port (λ z. cc);
  other = other_port c.args.self.now c.args.last c.args.port OpenDue Open c.requires.last c.requires.port (λ z. cc);
  even = even_open c.self.inside.numbers c.args.self.now c.self.view_is c.args.port c.requires.port;
}

pub returns : goal.returns
returns c =
    let xs = c.self.inside.numbers in let w = c.args.self.now in
    ap (map state_of) c.pass.ensures
    ∙ passed_open xs w c.self.view_is c.args.last c.args.port (3 - get_or xs c.args.last 0) Closed (flipped_closed xs w c.self.view_is c.args.last c.requires.last) c.requires.port
