use Rattle.std.proofs.Common.{ℕ, ◌+◌, ◌-◌, ◌*◌, ap, ◌∙◌}
use Rattle.std.specs.Prelude.{if◌then◌else◌}
use Rattle.bz_bits.specs.PortWords.{between}
use Rattle.std.specs.Int.{bit_at}
use Rattle.std.proofs.lemmas.Nat.Bits.{bit_at-lt}
use Rattle.bz_bits.proofs.Words.{flipped_two}
use Rattle.bz_bits.proofs.word.PortWord.flipped.Goals as goal

pub returns : goal.returns
returns c i lt =
    let d = bit_at c.args.self.due i in let o = bit_at c.args.self.opened i in
    ap (λ (x : ℕ). x + 2 * bit_at c.flip-2.result i) (c.flip.ensures i lt) ∙ ap (λ (x : ℕ). (if between c.args.place (c.args.place + 1) i then 1 - d else d) + 2 * x) (c.flip-2.ensures i lt)
    ∙ flipped_two _ d o (bit_at-lt c.args.self.due i) (bit_at-lt c.args.self.opened i)
