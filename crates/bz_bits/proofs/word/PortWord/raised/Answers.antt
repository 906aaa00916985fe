use Rattle.std.proofs.Common.{ℕ, ◌+◌, ◌*◌, ◌%◌, ap, ◌∙◌}
use Rattle.std.specs.Int.{bit_at}
use Rattle.std.proofs.lemmas.Nat.Bits.{bit_at-lt}
use Rattle.bz_bits.specs.PortWords.{number_in}
use Rattle.bz_bits.proofs.Words.{raised_two, only_here}
use Rattle.bz_bits.proofs.word.PortWord.raised.Goals as goal

pub returns : goal.returns
returns c i lt =
    let d = bit_at c.args.self.due i in let o = bit_at c.args.self.opened i in
    ap (λ (x : ℕ). x + 2 * o) (c.flip.ensures i lt)
    ∙ raised_two _ d o (bit_at-lt c.args.self.due i) (bit_at-lt c.args.self.opened i) (λ is. ap (λ (k : ℕ). number_in c.args.self k % 2) (only_here c.args.place i is) ∙ c.requires.even)
