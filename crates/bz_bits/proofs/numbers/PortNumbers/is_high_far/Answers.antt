use Rattle.std.proofs.Common.{◌∷◌, ◌/◌, ◌%◌, ℕ, List, get_or, sym, ap, ◌∙◌}
use Rattle.std.specs.Prelude.{nat_le}
use Rattle.bz_bits.specs.declared.word.PortWord.{PortWord}
use Rattle.bz_bits.specs.PortWords.{number_in, no_ports}
use Rattle.bz_bits.proofs.Words.{any-number}
use Rattle.bz_bits.proofs.numbers.PortNumbers.is_high_far.Goals as goal

pub returns : goal.returns
returns g c =
    let f = c.self.inside.first in let ws = f ∷ c.self.inside.more.items in let p = c.args.port in
    c.is_high.ensures
    ∙ ap (λ (w : PortWord). nat_le 2 (number_in w (p % 64))) (c.far_word.ensures f ∙ ap (λ (l : List PortWord). get_or (f ∷ l) (p / 64) no_ports) c.deref.ensures.value)
    ∙ ap (nat_le 2) (sym (any-number ws c.self.inside.len p c.self.invariant.0) ∙ ap (λ (l : List ℕ). get_or l p 0) c.self.view_is)
