use Rattle.std.proofs.Common.{◌≡◌, ◌<◌, ◌+◌, ◌%◌, ◌/◌, ◌-◌, ◌∷◌, ℕ, suc, List, length, get_or, set, sym, ap, subst, ◌∙◌, arith}
use Rattle.std.specs.Prelude.{if◌then◌else◌}
use Rattle.std.proofs.lemmas.List.{with_items_is}
use Rattle.bz_bits.specs.declared.word.PortWord.{PortWord}
use Rattle.bz_bits.specs.PortWords.{no_ports, number_in, numbers, number_at, between, AreNumbers, IsLowest, NoneOne}
use Rattle.bz_bits.proofs.Words.{are_filled, one_filled, any-number, length-numbers}
use Rattle.bz_bits.proofs.numbers.PortNumbers.raise_far.Goals as goal

pub raise_one-requires-clause-fits : goal.raise_one-requires-clause-fits
raise_one-requires-clause-fits g c =
    omega (arith, c.requires.held, c.self.invariant.0.room, length-numbers (c.self.inside.first ∷ c.self.inside.more.items) c.self.inside.len, ap length c.self.view_is, ap length c.deref_mut.ensures.value)

pub raise_one-requires-clause-even : goal.raise_one-requires-clause-even
raise_one-requires-clause-even g c first =
    let f = c.self.inside.first in let v = c.self.inside.more in let n = c.self.inside.len in let k = c.args.port in
    let e : k / 64 ≡ suc (k / 64 - 1) = omega (arith, c.requires.far) in
    let there = λ (f : PortWord). ap (λ (m : ℕ). number_in (get_or (f ∷ v.items) m no_ports) (k % 64)) e in
    ap (λ (l : List PortWord). number_at (first ∷ l) k % 2) c.deref_mut.ensures.value
    ∙ ap (λ (x : ℕ). x % 2) (there first ∙ sym (there f) ∙ sym (any-number (f ∷ v.items) n k c.self.invariant.0) ∙ ap (λ (l : List ℕ). get_or l k 0) c.self.view_is) ∙ c.requires.even

pub invariant_of-self : goal.invariant_of-self
invariant_of-self g c =
    let f = c.self.inside.first in let v = c.self.inside.more in let n = c.self.inside.len in let k = c.args.port in
    let more = c.raise_one.new.more in let first = c.self.inside.first in let s = number_at (f ∷ v.items) k + 1 in
    let len : length more ≡ v.len = c.raise_one.auto.more ∙ ap length c.deref_mut.ensures.value ∙ sym v.ok.0 in
    let held : k < n = omega (arith, c.requires.held, length-numbers (f ∷ v.items) n, ap length c.self.view_is) in
    subst (λ (l : List PortWord). AreNumbers (first ∷ l) n × IsLowest l c.raise_one.new.low × NoneOne l c.raise_one.new.ones) (sym (with_items_is v more len)) (
      are_filled (f ∷ v.items) (first ∷ more) n k (k + 1) s c.self.invariant.0 (omega (arith, len, v.ok.0))
          (λ p. c.raise_one.ensures.raised first p ∙ ap (λ (l : List PortWord). if between k (k + 1) p then number_at (f ∷ l) k + 1 else number_at (f ∷ l) p) c.deref_mut.ensures.value) (omega (arith, held)),
      c.raise_one.ensures.low,
      c.raise_one.ensures.ones,
    )

pub returns : goal.returns
returns g c =
    let f = c.self.inside.first in let v = c.self.inside.more in let n = c.self.inside.len in let k = c.args.port in
    let more = c.raise_one.new.more in let first = c.self.inside.first in let s = number_at (f ∷ v.items) k + 1 in
    let len : length more ≡ v.len = c.raise_one.auto.more ∙ ap length c.deref_mut.ensures.value ∙ sym v.ok.0 in
    let held : k < n = omega (arith, c.requires.held, length-numbers (f ∷ v.items) n, ap length c.self.view_is) in
    ap (λ (l : List PortWord). numbers (first ∷ l) n) (with_items_is v more len)
    ∙ one_filled (f ∷ v.items) (first ∷ more) n k s c.self.invariant.0 (omega (arith, len, v.ok.0))
    (λ p. c.raise_one.ensures.raised first p ∙ ap (λ (l : List PortWord). if between k (k + 1) p then number_at (f ∷ l) k + 1 else number_at (f ∷ l) p) c.deref_mut.ensures.value) held
    ∙ ap (λ (x : ℕ). set (numbers (f ∷ v.items) n) k (x + 1)) (sym (any-number (f ∷ v.items) n k c.self.invariant.0))
    ∙ ap (λ (l : List ℕ). set l k (get_or l k 0 + 1)) c.self.view_is
