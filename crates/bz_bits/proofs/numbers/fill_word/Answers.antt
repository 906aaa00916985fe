use Rattle.std.proofs.Common.{◌==◌, suc, ◌∷◌, List, get_or, ap, ◌∙◌}
use Rattle.std.specs.Prelude.{if◌then◌else◌}
use Rattle.std.specs.Int.{bit_at}
use Rattle.std.proofs.lemmas.List.{get_or-set_other}
use Rattle.bz_bits.specs.declared.word.PortWord.{PortWord}
use Rattle.bz_bits.specs.PortWords.{no_ports, number_in, number_at}
use Rattle.bz_bits.proofs.Words.{word_filled}
use Rattle.bz_bits.proofs.numbers.fill_word.Goals as goal

pub returns-clause-filled : goal.returns-clause-filled
returns-clause-filled c p =
    let old = c.args.first.now ∷ c.args.more.now in let s = c.args.number in
    ap (λ (l : List PortWord). number_at l p) c.store_word.ensures
    ∙ word_filled old c.args.from c.args.to c.args.at s c.places.result c.filled-word.result c.requires.held c.places.ensures
    (λ i lt. c.filled-word.ensures i lt ∙ ap (λ (w : PortWord). if bit_at c.places.result i == 1 then s else number_in w i) c.word_at.ensures) p

pub returns-clause-others : goal.returns-clause-others
returns-clause-others c k other =
    ap (λ (l : List PortWord). get_or l (suc k) no_ports) c.store_word.ensures
    ∙ get_or-set_other (c.args.first.now ∷ c.args.more.now) c.args.at (suc k) c.filled-word.result no_ports other
