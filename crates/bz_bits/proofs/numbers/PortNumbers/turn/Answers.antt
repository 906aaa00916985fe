use Rattle.std.proofs.Common.{◌<◌, ◌%◌, ◌+◌, ◌∷◌, ℕ, List, length, get_or, set, ap, subst, ◌∙◌, arith}
use Rattle.bz_bits.proofs.Words.{first_changed, are_changed, number_small, length-numbers}
use Rattle.bz_bits.proofs.numbers.PortNumbers.turn.Goals as goal

pub invariant_of-self : goal.invariant_of-self
invariant_of-self g c =
    let f = c.self.inside.first in let rest = c.self.inside.more.items in let n = c.self.inside.len in (
      are_changed (λ (x : ℕ). (x + 2) % 4) f c.turned-self-inside.result rest n c.args.port c.self.invariant.0
          (omega (arith, c.requires, length-numbers (c.self.inside.first ∷ c.self.inside.more.items) n, ap length c.self.view_is)) c.turned-self-inside.ensures.turned (omega (arith, c.if-port-lt64.true)),
      c.self.invariant.1,
      c.self.invariant.2,
    )

pub returns-then-port-lt64-clause-turned : goal.returns-then-port-lt64-clause-turned
returns-then-port-lt64-clause-turned g c =
    let f = c.self.inside.first in let rest = c.self.inside.more.items in let n = c.self.inside.len in let k = c.args.port in
    first_changed (λ (x : ℕ). (x + 2) % 4) f c.turned-self-inside.result rest n k c.self.invariant.0
    (omega (arith, c.requires, length-numbers (f ∷ rest) n, ap length c.self.view_is)) c.turned-self-inside.ensures.turned (omega (arith, c.if-port-lt64.true))
    ∙ ap (λ (l : List ℕ). set l k ((get_or l k 0 + 2) % 4)) c.self.view_is

pub returns-then-port-lt64-clause-small : goal.returns-then-port-lt64-clause-small
returns-then-port-lt64-clause-small g c = subst (λ (l : List ℕ). get_or l c.args.port 0 < 4) c.self.view_is (number_small _ _ c.args.port c.self.invariant.0)
