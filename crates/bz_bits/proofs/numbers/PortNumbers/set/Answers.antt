use Rattle.std.proofs.Common.{◌∷◌, ℕ, List, length, set, sym, ap, ◌∙◌, arith}
use Rattle.bz_bits.proofs.Words.{first_filled, set_beyond, length-numbers}
use Rattle.bz_bits.proofs.numbers.PortNumbers.set.Goals as goal

pub returns-then-port-self : goal.returns-then-port-self
returns-then-port-self g c =
    let f = c.self.inside.first in let rest = c.self.inside.more.items in let n = c.self.inside.len in let k = c.args.port in let s = c.args.number in
    first_filled f c.filled-self-inside.result rest n k s c.one_place.result c.self.invariant.0 c.if-port-self.true c.one_place.ensures c.filled-self-inside.ensures
    (omega (arith, c.if-port-ge64.false))
    ∙ ap (λ (l : List ℕ). set l k s) c.self.view_is

pub returns-else-port-self : goal.returns-else-port-self
returns-else-port-self g c =
    sym (set_beyond c.args.self.now c.args.port c.args.number (omega (arith, c.if-port-self.false, length-numbers (c.self.inside.first ∷ c.self.inside.more.items) c.self.inside.len, ap length c.self.view_is)))
