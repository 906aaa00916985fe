use Rattle.std.proofs.Common.{◌≡◌, ◌<◌, ◌^◌, ◌∷◌, ◌+◌, ◌-◌, ℕ, List, ap, subst, sym, refl, suc, inl, inr, ◌∙◌, arith, length, drop, take, get_or}
use Rattle.std.proofs.lemmas.List.{length-drop, take_all}
use Rattle.bz_bits.specs.declared.word.PortWord.{PortWord}
use Rattle.bz_bits.specs.PortWords.{no_ports, HasOdd, IsEven}
use Rattle.bz_bits.proofs.Words.{even_words, stops_there, length-numbers}
use Rattle.bz_bits.proofs.numbers.PortNumbers.next_beyond.Goals as goal

pub returns-clause-passed : goal.returns-clause-passed
returns-clause-passed g c k le lt =
    let more = c.self.inside.more.items in let b = c.min-before.result in let rest = drop b more in
    let whole : take (length more - b) rest ≡ rest = take_all (length more - b) rest (omega (arith, length-drop b more)) in
    let even = rw whole at (rw c.deref.ensures.value at c.count_even.ensures.even) in
    let within = rw whole at (rw c.deref.ensures.value at c.count_even.ensures.within) in
    subst (λ (l : List ℕ). IsEven l k) c.self.view_is
    (even_words c.self.inside.first more c.self.inside.len c.args.at b c.count_even.result c.self.invariant.0 c.requires
    (omega (arith, c.min-before.ensures, c.len.ensures, c.self.inside.more.ok)) within even k le lt)

pub returns-clause-stops : goal.returns-clause-stops
returns-clause-stops g c =
    let f = c.self.inside.first in let more = c.self.inside.more.items in let n = c.self.inside.len in
    let b = c.min-before.result in let rest = drop b more in let next = c.args.at + c.count_even.result in
    let whole : take (length more - b) rest ≡ rest = take_all (length more - b) rest (omega (arith, length-drop b more)) in
    let stops = rw whole at (rw c.deref.ensures.value at c.count_even.ensures.stops) in
    let within = rw whole at (rw c.deref.ensures.value at c.count_even.ensures.within) in
    let e : suc (next - 1) ≡ next = omega (arith, c.requires) in
    let odd = c.odd_at-odd.ensures ∙ ap (λ (l : List PortWord). (get_or l (next - 1) no_ports).due) c.deref-2.ensures.value in
    let fits = subst (λ (k : ℕ). (get_or (f ∷ more) k no_ports).due < 2 ^ 64) e (subst (λ (x : ℕ). x < 2 ^ 64) odd c.odd_at-odd.type_inv) in
    let long = ap length (sym c.self.view_is) ∙ length-numbers (f ∷ more) n in
    elim (stops_there f more n c.args.at b c.count_even.result c.self.invariant.0 c.requires (omega (arith, c.min-before.ensures, c.len.ensures, c.self.inside.more.ok)) within stops (get_or (f ∷ more) next no_ports) refl fits) [
      | inl past ↦ inl (omega (arith, past, long))
      | inr has ↦ inr (subst (λ (l : List ℕ). HasOdd l next) c.self.view_is has)
    ]
