use Rattle.std.proofs.Common.{◌≢◌, ◌≡◌, ◌-◌, ◌*◌, ℕ, List, length, drop, take, get_or, subst, inl, inr, arith}
use Rattle.std.proofs.lemmas.Bool.{cases_lt}
use Rattle.std.proofs.lemmas.List.{length-drop, take_all}
use Rattle.bz_bits.proofs.Ones.{lacks_behind, lacks_in_front}
use Rattle.bz_bits.proofs.numbers.PortNumbers.next_with_one.Goals as goal

pub returns-clause-passed : goal.returns-clause-passed
returns-clause-passed g c p le lt =
    let f = c.self.inside.first in let more = c.self.inside.more.items in let n = c.self.inside.len in
    let start = c.max-start.result in let b = c.min-front.result in let rest = drop b more in
    let whole : take (length more - b) rest ≡ rest = take_all (length more - b) rest (omega (arith, length-drop b more)) in
    let lacking = rw whole at (rw c.deref.ensures.value at c.count_lacking.ensures.lacking) in
    let within = rw whole at (rw c.deref.ensures.value at c.count_lacking.ensures.within) in
    subst (λ (l : List ℕ). get_or l p 0 ≢ 1) c.self.view_is (elim (cases_lt p (64 * start)) [
      | inl front ↦ lacks_in_front f more n c.self.inside.ones p c.self.invariant.0 c.self.invariant.2 (omega (arith, c.requires, le)) (omega (arith, front, le, c.max-start.ensures))
      | inr behind ↦ lacks_behind f more n start b c.count_lacking.result c.self.invariant.0 (omega (arith, c.requires, c.max-start.ensures))
          (omega (arith, c.min-front.ensures, c.len.ensures, c.self.inside.more.ok)) within lacking p behind lt
    ])
