use Rattle.std.proofs.Common.{◌∙◌, ap, arith, length, suc, position, bytes_eq}
use Rattle.std.proofs.lemmas.List.{length-map}
use Rattle.std.specs.Option.{option_map}
use Rattle.bz_model.specs.Names.{Outside, port_number}
use Rattle.bz_model.proofs.Ports.{number_placed}
use Rattle.bz_model.proofs.names.Names.port.Goals as goal

pub number_among-requires : goal.number_among-requires
number_among-requires c =
    let are = rw c.in-Some.is at c.self.invariant.1 in
    let n = ap length are ∙ length-map c.self.inside.ports.items (λ p. p.name.items) in
    omega (arith, n, c.self.invariant.0)

pub returns-in-Some : goal.returns-in-Some
returns-in-Some c =
    let name = c.args.name.now in
    let are = rw c.in-Some.is at c.self.invariant.1 in
    c.number_among.ensures ∙ (ap (λ ns. option_map suc (position (bytes_eq name) ns)) are ∙ (number_placed c.self.inside.ports.items name ∙ ap (λ (o : Outside). port_number o.ports name) c.self.view_is))
