use Rattle.std.proofs.Common.{length, map, ap, ◌-◌, get_or, ◌∙◌, arith}
use Rattle.std.proofs.lemmas.List.{length-map}
use Rattle.bz_kinds.specs.declared.ports.PortState.TheVariants.{Closed, OpenDue}
use Rattle.bz_kinds.specs.Ports.{state_of}
use Rattle.bz_kinds.proofs.PortLaws.{port_held, other_port, flipped_closed, passed_closed, even_closed}
use Rattle.bz_kinds.proofs.ports.Ports.go_on.Goals as goal

pub pass-requires : goal.pass-requires
pass-requires c = record {
  from = port_held c.self.inside.numbers c.args.self.now c.self.view_is c.args.port OpenDue c.requires.port (λ z. cc);
  to = omega (arith, c.requires.held, length-map c.self.inside.numbers state_of, ap length c.self.view_is);
  other = other_port c.args.self.now c.args.port c.args.next OpenDue Closed c.requires.port c.requires.next (λ z. cc);
  even = even_closed c.self.inside.numbers c.args.self.now c.self.view_is c.args.next c.requires.next;
}

pub returns : goal.returns
returns c =
    let xs = c.self.inside.numbers in let w = c.args.self.now in
    ap (map state_of) c.pass.ensures
    ∙ passed_closed xs w c.self.view_is c.args.port c.args.next (3 - get_or xs c.args.port 0) Closed (flipped_closed xs w c.self.view_is c.args.port c.requires.port) c.requires.next
