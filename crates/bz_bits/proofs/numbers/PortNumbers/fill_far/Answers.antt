use Rattle.std.proofs.Common.{◌≡◌, ◌∷◌, ℕ, List, length, get_or, sym, ap, subst, ◌∙◌, arith}
use Rattle.std.specs.Prelude.{if◌then◌else◌}
use Rattle.std.specs.Vec.{with_items}
use Rattle.std.proofs.lemmas.List.{with_items_is}
use Rattle.bz_bits.specs.declared.word.PortWord.{PortWord}
use Rattle.bz_bits.specs.PortWords.{numbers, number_at, between, AreNumbers, IsLowest, NoneOne}
use Rattle.bz_bits.proofs.Words.{are_filled, each_filled, length-numbers}
use Rattle.bz_bits.proofs.numbers.PortNumbers.fill_far.Goals as goal

pub fill-requires-clause-fits : goal.fill-requires-clause-fits
fill-requires-clause-fits g c =
    omega (arith, c.requires.fits, c.self.invariant.0.room, length-numbers (c.self.inside.first ∷ c.self.inside.more.items) c.self.inside.len, ap length c.self.view_is, ap length c.deref_mut.ensures.value)

pub invariant_of-self : goal.invariant_of-self
invariant_of-self g c =
    let f = c.self.inside.first in let v = c.self.inside.more in let n = c.self.inside.len in let s = c.args.number in
    let more = c.fill.new.more in let first = c.fill.new.first in
    let len : length more ≡ v.len = c.fill.auto.more ∙ ap length c.deref_mut.ensures.value ∙ sym v.ok.0 in
    subst (λ (l : List PortWord). AreNumbers (first ∷ l) n × IsLowest l c.fill.new.low × NoneOne l c.fill.new.ones) (sym (with_items_is v more len)) (
      are_filled (f ∷ v.items) (first ∷ more) n c.args.from c.args.to s c.self.invariant.0 (omega (arith, len, v.ok.0))
          (λ p. c.fill.ensures.filled p ∙ ap (λ (l : List PortWord). if between c.args.from c.args.to p then s else number_at (f ∷ l) p) c.deref_mut.ensures.value)
          (omega (arith, c.requires.fits, length-numbers (f ∷ v.items) n, ap length c.self.view_is)),
      c.fill.ensures.low,
      c.fill.ensures.ones,
    )

pub returns-clause-long : goal.returns-clause-long
returns-clause-long g c =
    length-numbers (c.fill.new.first ∷ (with_items c.self.inside.more c.fill.new.more).items) c.self.inside.len
    ∙ sym (length-numbers (c.self.inside.first ∷ c.self.inside.more.items) c.self.inside.len) ∙ ap length c.self.view_is

pub returns-clause-each : goal.returns-clause-each
returns-clause-each g c p =
    let f = c.self.inside.first in let v = c.self.inside.more in let n = c.self.inside.len in let s = c.args.number in
    let more = c.fill.new.more in let first = c.fill.new.first in
    let len : length more ≡ v.len = c.fill.auto.more ∙ ap length c.deref_mut.ensures.value ∙ sym v.ok.0 in
    ap (λ (l : List PortWord). get_or (numbers (first ∷ l) n) p 0) (with_items_is v more len)
    ∙ each_filled (f ∷ v.items) (first ∷ more) n c.args.from c.args.to s c.self.invariant.0 (omega (arith, len, v.ok.0))
    (λ p. c.fill.ensures.filled p ∙ ap (λ (l : List PortWord). if between c.args.from c.args.to p then s else number_at (f ∷ l) p) c.deref_mut.ensures.value)
    (omega (arith, c.requires.fits, length-numbers (f ∷ v.items) n, ap length c.self.view_is)) p
    ∙ ap (λ (l : List ℕ). if between c.args.from c.args.to p then s else get_or l p 0) c.self.view_is
