use Rattle.std.proofs.Common.{ℕ, ◌+◌, ◌*◌, ap, ◌∙◌}
use Rattle.std.specs.Int.{bit_at}
use Rattle.std.proofs.lemmas.Nat.Bits.{bit_at-lt}
use Rattle.bz_bits.proofs.Words.{turned_two}
use Rattle.bz_bits.proofs.word.PortWord.turned.Goals as goal

pub returns-clause-turned : goal.returns-clause-turned
returns-clause-turned c i lt =
    let d = bit_at c.args.self.due i in let o = bit_at c.args.self.opened i in
    ap (λ (x : ℕ). d + 2 * x) (c.flip.ensures i lt) ∙ turned_two _ d o (bit_at-lt c.args.self.due i) (bit_at-lt c.args.self.opened i)
