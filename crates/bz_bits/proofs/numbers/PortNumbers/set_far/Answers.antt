use Rattle.std.proofs.Common.{◌≡◌, ◌∷◌, ◌+◌, ℕ, List, length, set, sym, ap, ◌∙◌, arith}
use Rattle.std.specs.Prelude.{if◌then◌else◌}
use Rattle.std.proofs.lemmas.List.{with_items_is}
use Rattle.bz_bits.specs.declared.word.PortWord.{PortWord}
use Rattle.bz_bits.specs.PortWords.{numbers, number_at, between}
use Rattle.bz_bits.proofs.Words.{one_filled, set_beyond, length-numbers}
use Rattle.bz_bits.proofs.numbers.PortNumbers.set_far.Goals as goal

pub returns-then-port-self : goal.returns-then-port-self
returns-then-port-self g c =
    let f = c.self.inside.first in let v = c.self.inside.more in let n = c.self.inside.len in let k = c.args.port in let s = c.args.number in
    let more = c.fill_one.new.more in let first = f in
    let len : length more ≡ v.len = c.fill_one.auto.more ∙ ap length c.deref_mut.ensures.value ∙ sym v.ok.0 in
    ap (λ (l : List PortWord). numbers (first ∷ l) n) (with_items_is v more len)
    ∙ one_filled (f ∷ v.items) (first ∷ more) n k s c.self.invariant.0 (omega (arith, len, v.ok.0))
    (λ p. c.fill_one.ensures.filled first p ∙ ap (λ (l : List PortWord). if between k (k + 1) p then s else number_at (f ∷ l) p) c.deref_mut.ensures.value) (omega (arith, c.if-port-self.true))
    ∙ ap (λ (l : List ℕ). set l k s) c.self.view_is

pub returns-else-port-self : goal.returns-else-port-self
returns-else-port-self g c =
    sym (set_beyond c.args.self.now c.args.port c.args.number (omega (arith, c.if-port-self.false, length-numbers (c.self.inside.first ∷ c.self.inside.more.items) c.self.inside.len, ap length c.self.view_is)))
