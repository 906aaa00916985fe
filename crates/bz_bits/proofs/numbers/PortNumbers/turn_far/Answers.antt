use Rattle.std.proofs.Common.{◌≡◌, ◌<◌, ◌+◌, ◌%◌, ◌∷◌, ℕ, List, length, get_or, set, sym, ap, subst, ◌∙◌, arith}
use Rattle.std.specs.Prelude.{if◌then◌else◌}
use Rattle.std.proofs.lemmas.List.{with_items_is}
use Rattle.bz_bits.specs.declared.word.PortWord.{PortWord}
use Rattle.bz_bits.specs.PortWords.{numbers, number_at, between, AreNumbers, IsLowest, NoneOne}
use Rattle.bz_bits.proofs.Words.{are_filled, one_filled, any-number, number_small, length-numbers}
use Rattle.bz_bits.proofs.numbers.PortNumbers.turn_far.Goals as goal

pub turn_one-requires-clause-fits : goal.turn_one-requires-clause-fits
turn_one-requires-clause-fits g c =
    omega (arith, c.requires.held, c.self.invariant.0.room, length-numbers (c.self.inside.first ∷ c.self.inside.more.items) c.self.inside.len, ap length c.self.view_is, ap length c.deref_mut.ensures.value)

pub invariant_of-self : goal.invariant_of-self
invariant_of-self g c =
    let f = c.self.inside.first in let v = c.self.inside.more in let n = c.self.inside.len in let k = c.args.port in
    let more = c.turn_one.new.more in let first = c.self.inside.first in let s = (number_at (f ∷ v.items) k + 2) % 4 in
    let len : length more ≡ v.len = c.turn_one.auto.more ∙ ap length c.deref_mut.ensures.value ∙ sym v.ok.0 in
    let held : k < n = omega (arith, c.requires.held, length-numbers (f ∷ v.items) n, ap length c.self.view_is) in
    subst (λ (l : List PortWord). AreNumbers (first ∷ l) n × IsLowest l c.self.inside.low × NoneOne l c.turn_one.new.ones) (sym (with_items_is v more len)) (
      are_filled (f ∷ v.items) (first ∷ more) n k (k + 1) s c.self.invariant.0 (omega (arith, len, v.ok.0))
          (λ p. c.turn_one.ensures.turned first p ∙ ap (λ (l : List PortWord). if between k (k + 1) p then (number_at (f ∷ l) k + 2) % 4 else number_at (f ∷ l) p) c.deref_mut.ensures.value) (omega (arith, held)),
      c.turn_one.ensures.low c.self.inside.low (subst (λ (l : List PortWord). IsLowest l c.self.inside.low) (sym c.deref_mut.ensures.value) c.self.invariant.1),
      c.turn_one.ensures.ones,
    )

pub returns-clause-turned : goal.returns-clause-turned
returns-clause-turned g c =
    let f = c.self.inside.first in let v = c.self.inside.more in let n = c.self.inside.len in let k = c.args.port in
    let more = c.turn_one.new.more in let first = c.self.inside.first in let s = (number_at (f ∷ v.items) k + 2) % 4 in
    let len : length more ≡ v.len = c.turn_one.auto.more ∙ ap length c.deref_mut.ensures.value ∙ sym v.ok.0 in
    let held : k < n = omega (arith, c.requires.held, length-numbers (f ∷ v.items) n, ap length c.self.view_is) in
    ap (λ (l : List PortWord). numbers (first ∷ l) n) (with_items_is v more len)
    ∙ one_filled (f ∷ v.items) (first ∷ more) n k s c.self.invariant.0 (omega (arith, len, v.ok.0))
    (λ p. c.turn_one.ensures.turned first p ∙ ap (λ (l : List PortWord). if between k (k + 1) p then (number_at (f ∷ l) k + 2) % 4 else number_at (f ∷ l) p) c.deref_mut.ensures.value) held
    ∙ ap (λ (x : ℕ). set (numbers (f ∷ v.items) n) k ((x + 2) % 4)) (sym (any-number (f ∷ v.items) n k c.self.invariant.0))
    ∙ ap (λ (l : List ℕ). set l k ((get_or l k 0 + 2) % 4)) c.self.view_is

pub returns-clause-small : goal.returns-clause-small
returns-clause-small g c = subst (λ (l : List ℕ). get_or l c.args.port 0 < 4) c.self.view_is (number_small _ _ c.args.port c.self.invariant.0)
