use Rattle.std.proofs.Common.{refl}
use Rattle.bz_cli_input.proofs.netlist.named_flat_of_input.Goals as goal

pub returns-clause-ok : goal.returns-clause-ok
returns-clause-ok c =
    let names = rw c.as_slice.ensures.value at c.in_ok-netlist.ensures.ok in
    let net = rw c.as_slice-2.ensures.value at c.in_ok-flat.ensures.ok in
    let sound = rw c.as_slice-2.ensures.value at c.in_ok-flat.ensures.sound in
    (record { listed = c.in_ok-netlist.netlist.parts; names = names; name = c.in_ok-name.name.items; chosen = c.in_ok-name.ensures.ok; net = net; sound = sound }, refl)
