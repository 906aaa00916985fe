use Rattle.std.proofs.Common.{◌∷◌, ◌+◌, ◌-◌, ℕ, List, ap, subst, sym, refl, inl, inr, ◌∙◌, arith, length, get_or}
use Rattle.bz_bits.specs.PortWords.{no_ports, HasOdd, IsEven}
use Rattle.bz_bits.proofs.Words.{even_word, lowest_odd, length-numbers}
use Rattle.bz_bits.proofs.numbers.PortNumbers.next_odd.Goals as goal

pub returns-then-at-lowest-clause-passed : goal.returns-then-at-lowest-clause-passed
returns-then-at-lowest-clause-passed g c k le lt =
    let f = c.self.inside.first in let more = c.self.inside.more.items in let n = c.self.inside.len in
    subst (λ (l : List ℕ). IsEven l k) c.self.view_is
    (even_word f more n k c.self.invariant.0 (omega (arith, c.requires, le)) (get_or more (k - 1) no_ports) refl (c.self.invariant.1.even (k - 1) (omega (arith, c.requires, le, lt))))

pub returns-then-at-lowest-clause-stops : goal.returns-then-at-lowest-clause-stops
returns-then-at-lowest-clause-stops g c =
    let f = c.self.inside.first in let more = c.self.inside.more.items in let n = c.self.inside.len in let low = c.self.inside.low in
    let long = ap length (sym c.self.view_is) ∙ length-numbers (f ∷ more) n in
    elim (lowest_odd f more n low c.self.invariant.0 c.self.invariant.1) [
      | inl past ↦ inl (omega (arith, past, long))
      | inr has ↦ inr (subst (λ (l : List ℕ). HasOdd l (low + 1)) c.self.view_is has)
    ]
