use Rattle.std.proofs.Common.{length, sym, ap, ◌∙◌}
use Rattle.bz_bits.proofs.States.{length-states}
use Rattle.bz_bits.proofs.ports.PortStates.len.Goals as goal

pub returns : goal.returns
returns g c = c.len.ensures ∙ sym (length-states c.self.inside.low c.self.inside.high c.self.invariant) ∙ ap length c.self.view_is
