use Rattle.std.proofs.Common.{◌-◌, ◌∷◌, ◌∙◌, ℕ, List, length, get_or, set, ap, arith}
use Rattle.bz_bits.proofs.Words.{first_changed, are_changed, length-numbers}
use Rattle.bz_bits.proofs.numbers.PortNumbers.flip.Goals as goal

pub invariant_of-self : goal.invariant_of-self
invariant_of-self g c =
    let f = c.self.inside.first in let rest = c.self.inside.more.items in let n = c.self.inside.len in (
      are_changed (λ (x : ℕ). 3 - x) f c.flipped-self-inside.result rest n c.args.port c.self.invariant.0
          (omega (arith, c.requires, length-numbers (f ∷ rest) n, ap length c.self.view_is)) c.flipped-self-inside.ensures (omega (arith, c.if-port-lt64.true)),
      c.self.invariant.1,
      c.self.invariant.2,
    )

pub returns-then-port-lt64 : goal.returns-then-port-lt64
returns-then-port-lt64 g c =
    let f = c.self.inside.first in let rest = c.self.inside.more.items in let n = c.self.inside.len in let k = c.args.port in
    first_changed (λ (x : ℕ). 3 - x) f c.flipped-self-inside.result rest n k c.self.invariant.0
    (omega (arith, c.requires, length-numbers (f ∷ rest) n, ap length c.self.view_is)) c.flipped-self-inside.ensures (omega (arith, c.if-port-lt64.true))
    ∙ ap (λ (l : List ℕ). set l k (3 - get_or l k 0)) c.self.view_is
