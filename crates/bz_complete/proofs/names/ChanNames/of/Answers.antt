use Rattle.std.proofs.Common.{length, map, ap, ◌∙◌, arith}
use Rattle.std.proofs.lemmas.List.{length-map}
use Rattle.bz_complete.specs.Named.{port_form}
use Rattle.bz_complete.proofs.Naming.{turned}
use Rattle.bz_complete.proofs.names.ChanNames.of.Goals as goal

pub invariant_of-result : goal.invariant_of-result
invariant_of-result c =
    let back = turned c.args.survey.now c.chan_count-count.result c.in_ok-new-2.field-0 c.in_ok-back.back.items c.reverse.new.self.items c.in_ok-back.ensures c.reverse.ensures.items (c.in_ok-new-2.ensures ∙ c.in_ok-labels_of.ensures) in
    let few = c.ports.ensures.wired.chans_few in let to = c.ports.ensures.wired.ports_to in let count = c.chan_count-count.ensures in let same = back.1 in
    let ports = ap length (c.in_ok-new.ensures ∙ c.in_ok-forms_of.ensures ∙ ap (map port_form) c.ports.ensures.value) ∙ length-map c.args.flat.now.wiring.ports port_form in
    (c.in_ok-new-3.ensures ∙ back.0, same, omega (arith, few, count, same), omega (arith, few, to, ports))
