use Rattle.std.proofs.Common.{◌+◌, ◌*◌, ℕ, false, List, length, get_or, sym, ap, ◌∙◌, arith}
use Rattle.std.specs.Int.{from_bool}
use Rattle.bz_bits.proofs.States.{length-states, get-states, value_of}
use Rattle.bz_bits.proofs.ports.PortStates.get.Goals as goal

pub get-requires : goal.get-requires
get-requires g c = omega (arith, length-states c.self.inside.low c.self.inside.high c.self.invariant, ap length c.self.view_is)

pub get-requires-2 : goal.get-requires-2
get-requires-2 g c = omega (arith, length-states c.self.inside.low c.self.inside.high c.self.invariant, ap length c.self.view_is, c.self.invariant)

pub returns-clause-value : goal.returns-clause-value
returns-clause-value g c =
    let ls = c.self.inside.low in let hs = c.self.inside.high in let k = c.args.port in
    ap (λ (x : ℕ). x + 2 * c.from-2.result) (c.from.ensures ∙ ap from_bool c.get.ensures)
    ∙ ap (λ (x : ℕ). from_bool (get_or ls k false) + 2 * x) (c.from-2.ensures ∙ ap from_bool c.get-2.ensures)
    ∙ value_of (get_or ls k false) (get_or hs k false) ∙ sym (get-states ls hs k c.self.invariant) ∙ ap (λ (l : List ℕ). get_or l k 0) c.self.view_is
