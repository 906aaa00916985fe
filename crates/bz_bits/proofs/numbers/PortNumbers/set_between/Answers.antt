use Rattle.std.proofs.Common.{◌∷◌, ◌≤◌, ℕ, List, length, get_or, refl, sym, ap, ◌∙◌, arith}
use Rattle.std.specs.Prelude.{if◌then◌else◌}
use Rattle.bz_bits.specs.PortWords.{between}
use Rattle.bz_bits.proofs.Words.{are_filled, each_filled, are_between, length-numbers}
use Rattle.bz_bits.proofs.numbers.PortNumbers.set_between.Goals as goal

pub invariant_of-self : goal.invariant_of-self
invariant_of-self g c =
    let f = c.self.inside.first in let rest = c.self.inside.more.items in let n = c.self.inside.len in let w = c.filled-self-inside.result in
    let near : c.args.to ≤ 64 = omega (arith, c.if-to-ge64.false) in
    let fits : c.args.to ≤ n = omega (arith, c.requires.fits, length-numbers (f ∷ rest) n, ap length c.self.view_is) in (
      are_filled (f ∷ rest) (w ∷ rest) n c.args.from c.args.to c.args.number c.self.invariant.0 refl
          (λ p. are_between f w rest c.args.from c.args.to c.args.number c.places.result p near c.places.ensures c.filled-self-inside.ensures) fits,
      c.self.invariant.1,
      c.self.invariant.2,
    )

pub returns-then-from-to-clause-long : goal.returns-then-from-to-clause-long
returns-then-from-to-clause-long g c =
    length-numbers (c.filled-self-inside.result ∷ c.self.inside.more.items) c.self.inside.len
    ∙ sym (length-numbers (c.self.inside.first ∷ c.self.inside.more.items) c.self.inside.len) ∙ ap length c.self.view_is

pub returns-then-from-to-clause-each : goal.returns-then-from-to-clause-each
returns-then-from-to-clause-each g c p =
    let f = c.self.inside.first in let rest = c.self.inside.more.items in let n = c.self.inside.len in let w = c.filled-self-inside.result in let s = c.args.number in
    let near : c.args.to ≤ 64 = omega (arith, c.if-to-ge64.false) in
    let fits : c.args.to ≤ n = omega (arith, c.requires.fits, length-numbers (f ∷ rest) n, ap length c.self.view_is) in
    each_filled (f ∷ rest) (w ∷ rest) n c.args.from c.args.to s c.self.invariant.0 refl
    (λ p. are_between f w rest c.args.from c.args.to s c.places.result p near c.places.ensures c.filled-self-inside.ensures) fits p
    ∙ ap (λ (l : List ℕ). if between c.args.from c.args.to p then s else get_or l p 0) c.self.view_is
