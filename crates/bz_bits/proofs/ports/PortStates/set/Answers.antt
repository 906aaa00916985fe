use Rattle.std.proofs.Common.{◌/◌, ◌%◌, ◌==◌, ℕ, Bool, List, length, set, ap, ◌∙◌, arith}
use Rattle.bz_bits.specs.Ports.{states}
use Rattle.bz_bits.proofs.States.{length-states, set-states, of_halves}
use Rattle.bz_bits.proofs.ports.PortStates.set.Goals as goal

pub set-requires : goal.set-requires
set-requires g c = omega (arith, length-states c.self.inside.low c.self.inside.high c.self.invariant, ap length c.self.view_is)

pub set-requires-2 : goal.set-requires-2
set-requires-2 g c = omega (arith, length-states c.self.inside.low c.self.inside.high c.self.invariant, ap length c.self.view_is, c.self.invariant)

pub returns : goal.returns
returns g c =
    let ls = c.self.inside.low in let hs = c.self.inside.high in let k = c.args.port in let s = c.args.state in
    ap (λ (l : List Bool). states l c.set-2.new.self) c.set.ensures ∙ ap (states (set ls k (s % 2 == 1))) c.set-2.ensures ∙ set-states ls hs k (s % 2 == 1) (s / 2 == 1)
    ∙ ap (set (states ls hs) k) (of_halves s c.requires.small) ∙ ap (λ (l : List ℕ). set l k s) c.self.view_is
