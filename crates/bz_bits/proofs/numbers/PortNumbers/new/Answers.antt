use Rattle.std.proofs.Common.{◌≡◌, ◌∷◌, ℕ, List, replicate, ap, ◌∙◌, arith}
use Rattle.bz_bits.specs.declared.word.PortWord.{PortWord}
use Rattle.bz_bits.specs.PortWords.{numbers, no_ports}
use Rattle.bz_bits.proofs.Words.{numbers_none}
use Rattle.bz_bits.proofs.numbers.PortNumbers.new.Goals as goal

pub returns : goal.returns
returns g c =
    let n = c.in-Ok.len in let same : n ≡ c.args.count = grind (arith, c.in-Ok.ensures) in
    ap (λ (l : List PortWord). numbers (no_ports ∷ l) n) (c.in_ok-more.ensures.items_if_clones_equal (λ y e. e)) ∙ numbers_none _ n ∙ ap (λ (k : ℕ). replicate k 0) same
