use Rattle.std.proofs.Common.{◌+◌, ◌%◌, ◌∷◌, ◌∙◌, ℕ, List, length, get_or, set, sym, ap, arith}
use Rattle.bz_bits.proofs.Words.{first_changed, are_changed, near-number, length-numbers}
use Rattle.bz_bits.proofs.numbers.PortNumbers.raise.Goals as goal

pub raised-self-inside-requires-clause-even : goal.raised-self-inside-requires-clause-even
raised-self-inside-requires-clause-even g c =
    let f = c.self.inside.first in let rest = c.self.inside.more.items in
    ap (λ (x : ℕ). x % 2) (sym (near-number f rest c.self.inside.len c.args.port c.self.invariant.0 (omega (arith, c.if-port-lt64.true))) ∙ ap (λ (l : List ℕ). get_or l c.args.port 0) c.self.view_is)
    ∙ c.requires.even

pub invariant_of-self : goal.invariant_of-self
invariant_of-self g c =
    let f = c.self.inside.first in let rest = c.self.inside.more.items in let n = c.self.inside.len in (
      are_changed (λ (x : ℕ). x + 1) f c.raised-self-inside.result rest n c.args.port c.self.invariant.0
          (omega (arith, c.requires.held, length-numbers (f ∷ rest) n, ap length c.self.view_is)) c.raised-self-inside.ensures (omega (arith, c.if-port-lt64.true)),
      c.self.invariant.1,
      c.self.invariant.2,
    )

pub returns-then-port-lt64 : goal.returns-then-port-lt64
returns-then-port-lt64 g c =
    let f = c.self.inside.first in let rest = c.self.inside.more.items in let n = c.self.inside.len in let k = c.args.port in
    first_changed (λ (x : ℕ). x + 1) f c.raised-self-inside.result rest n k c.self.invariant.0
    (omega (arith, c.requires.held, length-numbers (f ∷ rest) n, ap length c.self.view_is)) c.raised-self-inside.ensures (omega (arith, c.if-port-lt64.true))
    ∙ ap (λ (l : List ℕ). set l k (get_or l k 0 + 1)) c.self.view_is
