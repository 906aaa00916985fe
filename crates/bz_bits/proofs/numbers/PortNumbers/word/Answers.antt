use Rattle.std.proofs.Common.{◌∷◌, ◌+◌, ◌*◌, ℕ, List, get_or, ap, ◌∙◌}
use Rattle.bz_bits.specs.declared.word.PortWord.{PortWord}
use Rattle.bz_bits.specs.PortWords.{number_in, no_ports}
use Rattle.bz_bits.proofs.Words.{word_numbers}
use Rattle.bz_bits.proofs.numbers.PortNumbers.word.Goals as goal

pub returns : goal.returns
returns g c i lt =
    let f = c.self.inside.first in let ws = f ∷ c.self.inside.more.items in let at = c.args.at in
    ap (λ (w : PortWord). number_in w i) (c.word_at.ensures ∙ ap (λ (l : List PortWord). get_or (f ∷ l) at no_ports) c.deref.ensures.value)
    ∙ word_numbers ws c.self.inside.len at i c.self.invariant.0 lt ∙ ap (λ (l : List ℕ). get_or l (64 * at + i) 0) c.self.view_is
