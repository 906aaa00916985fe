use Rattle.std.proofs.Common.{◌<◌, ◌-◌, ◌+◌, ◌%◌, ◌∷◌, ◌∙◌, ℕ, List, length, get_or, set, sym, ap, arith}
use Rattle.std.proofs.lemmas.List.{get_or-set_other}
use Rattle.bz_bits.proofs.Words.{first_changed, are_changed, near-number, length-numbers, unchanged}
use Rattle.bz_bits.proofs.numbers.PortNumbers.pass.Goals as goal

pub raised-self-inside-requires-clause-even : goal.raised-self-inside-requires-clause-even
raised-self-inside-requires-clause-even g c =
    let f = c.self.inside.first in let rest = c.self.inside.more.items in let n = c.self.inside.len in let near : c.args.to < 64 = omega (arith, c.if-to-lt64.true) in
    ap (λ (x : ℕ). x % 2) (unchanged (λ (x : ℕ). 3 - x) f c.flipped.result c.args.from c.args.to c.flipped.ensures near (λ e. c.requires.other (sym e))
    ∙ sym (near-number f rest n c.args.to c.self.invariant.0 near) ∙ ap (λ (l : List ℕ). get_or l c.args.to 0) c.self.view_is) ∙ c.requires.even

pub invariant_of-self : goal.invariant_of-self
invariant_of-self g c =
    let f = c.self.inside.first in let rest = c.self.inside.more.items in let n = c.self.inside.len in
    let long = length-numbers (f ∷ rest) n in let same = ap length c.self.view_is in
    let mid = are_changed (λ (x : ℕ). 3 - x) f c.flipped.result rest n c.args.from c.self.invariant.0 (omega (arith, c.requires.from, long, same)) c.flipped.ensures (omega (arith, c.if-from-lt64.true)) in
    (are_changed (λ (x : ℕ). x + 1) c.flipped.result c.raised-self-inside.result rest n c.args.to mid (omega (arith, c.requires.to, long, same)) c.raised-self-inside.ensures (omega (arith, c.if-to-lt64.true)), c.self.invariant.1, c.self.invariant.2)

pub returns-then-to-lt64 : goal.returns-then-to-lt64
returns-then-to-lt64 g c =
    let f = c.self.inside.first in let rest = c.self.inside.more.items in let n = c.self.inside.len in let p = c.args.from in let q = c.args.to in
    let long = length-numbers (f ∷ rest) n in let same = ap length c.self.view_is in
    let near : p < 64 = omega (arith, c.if-from-lt64.true) in
    let held : p < n = omega (arith, c.requires.from, long, same) in
    let mid = are_changed (λ (x : ℕ). 3 - x) f c.flipped.result rest n p c.self.invariant.0 held c.flipped.ensures near in
    first_changed (λ (x : ℕ). x + 1) c.flipped.result c.raised-self-inside.result rest n q mid (omega (arith, c.requires.to, long, same)) c.raised-self-inside.ensures (omega (arith, c.if-to-lt64.true))
    ∙ ap (λ (l : List ℕ). set l q (get_or l q 0 + 1)) (first_changed (λ (x : ℕ). 3 - x) f c.flipped.result rest n p c.self.invariant.0 held c.flipped.ensures near
    ∙ ap (λ (l : List ℕ). set l p (3 - get_or l p 0)) c.self.view_is)
    ∙ ap (λ (x : ℕ). set (set c.args.self.now p (3 - get_or c.args.self.now p 0)) q (x + 1)) (get_or-set_other c.args.self.now p q _ 0 (λ e. c.requires.other (sym e)))
