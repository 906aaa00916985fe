use Rattle.std.proofs.Common.{◌≡◌, ◌<◌, ◌+◌, ◌-◌, ◌∷◌, ℕ, List, length, get_or, set, sym, ap, subst, ◌∙◌, arith}
use Rattle.std.specs.Prelude.{if◌then◌else◌}
use Rattle.std.proofs.lemmas.List.{with_items_is}
use Rattle.bz_bits.specs.declared.word.PortWord.{PortWord}
use Rattle.bz_bits.specs.PortWords.{numbers, number_at, between, AreNumbers, IsLowest, NoneOne}
use Rattle.bz_bits.proofs.Words.{are_filled, one_filled, any-number, length-numbers}
use Rattle.bz_bits.proofs.numbers.PortNumbers.flip_far.Goals as goal

pub flip_one-requires-clause-fits : goal.flip_one-requires-clause-fits
flip_one-requires-clause-fits g c =
    omega (arith, c.requires.held, c.self.invariant.0.room, length-numbers (c.self.inside.first ∷ c.self.inside.more.items) c.self.inside.len, ap length c.self.view_is, ap length c.deref_mut.ensures.value)

pub invariant_of-self : goal.invariant_of-self
invariant_of-self g c =
    let f = c.self.inside.first in let v = c.self.inside.more in let n = c.self.inside.len in let k = c.args.port in
    let more = c.flip_one.new.more in let first = c.self.inside.first in let s = 3 - number_at (f ∷ v.items) k in
    let len : length more ≡ v.len = c.flip_one.auto.more ∙ ap length c.deref_mut.ensures.value ∙ sym v.ok.0 in
    let held : k < n = omega (arith, c.requires.held, length-numbers (f ∷ v.items) n, ap length c.self.view_is) in
    subst (λ (l : List PortWord). AreNumbers (first ∷ l) n × IsLowest l c.flip_one.new.low × NoneOne l c.flip_one.new.ones) (sym (with_items_is v more len)) (
      are_filled (f ∷ v.items) (first ∷ more) n k (k + 1) s c.self.invariant.0 (omega (arith, len, v.ok.0))
          (λ p. c.flip_one.ensures.flipped first p ∙ ap (λ (l : List PortWord). if between k (k + 1) p then 3 - number_at (f ∷ l) k else number_at (f ∷ l) p) c.deref_mut.ensures.value) (omega (arith, held)),
      c.flip_one.ensures.low,
      c.flip_one.ensures.ones,
    )

pub returns : goal.returns
returns g c =
    let f = c.self.inside.first in let v = c.self.inside.more in let n = c.self.inside.len in let k = c.args.port in
    let more = c.flip_one.new.more in let first = c.self.inside.first in let s = 3 - number_at (f ∷ v.items) k in
    let len : length more ≡ v.len = c.flip_one.auto.more ∙ ap length c.deref_mut.ensures.value ∙ sym v.ok.0 in
    let held : k < n = omega (arith, c.requires.held, length-numbers (f ∷ v.items) n, ap length c.self.view_is) in
    ap (λ (l : List PortWord). numbers (first ∷ l) n) (with_items_is v more len)
    ∙ one_filled (f ∷ v.items) (first ∷ more) n k s c.self.invariant.0 (omega (arith, len, v.ok.0))
    (λ p. c.flip_one.ensures.flipped first p ∙ ap (λ (l : List PortWord). if between k (k + 1) p then 3 - number_at (f ∷ l) k else number_at (f ∷ l) p) c.deref_mut.ensures.value) held
    ∙ ap (λ (x : ℕ). set (numbers (f ∷ v.items) n) k (3 - x)) (sym (any-number (f ∷ v.items) n k c.self.invariant.0))
    ∙ ap (λ (l : List ℕ). set l k (3 - get_or l k 0)) c.self.view_is
