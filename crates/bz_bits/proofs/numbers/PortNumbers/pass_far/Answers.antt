use Rattle.std.proofs.Common.{◌-◌, ◌+◌, ◌%◌, ◌∙◌, ℕ, List, get_or, set, sym, ap}
use Rattle.std.proofs.lemmas.List.{get_or-set_other}
use Rattle.bz_bits.proofs.numbers.PortNumbers.pass_far.Goals as goal

pub raise-requires-clause-even : goal.raise-requires-clause-even
raise-requires-clause-even g c =
    let w = c.args.self.now in let p = c.args.from in let q = c.args.to in
    ap (λ (l : List ℕ). get_or l q 0 % 2) c.flip.ensures ∙ ap (λ (x : ℕ). x % 2) (get_or-set_other w p q (3 - get_or w p 0) 0 (λ e. c.requires.other (sym e))) ∙ c.requires.even

pub returns : goal.returns
returns g c =
    let w = c.args.self.now in let p = c.args.from in let q = c.args.to in let mid = set w p (3 - get_or w p 0) in
    c.raise.ensures ∙ ap (λ (l : List ℕ). set l q (get_or l q 0 + 1)) c.flip.ensures
    ∙ ap (λ (x : ℕ). set mid q (x + 1)) (get_or-set_other w p q (3 - get_or w p 0) 0 (λ e. c.requires.other (sym e)))
