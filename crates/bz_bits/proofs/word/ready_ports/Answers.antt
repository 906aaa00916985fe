use Rattle.std.proofs.Common.{◌==◌, ℕ, ap, ◌∙◌, min, max}
use Rattle.std.specs.Int.{bit_at}
use Rattle.std.specs.Prelude.{bit_or, bit_xor}
use Rattle.std.proofs.lemmas.Nat.Bits.{bit_at_and, bit_at_or, bit_at_xor, bit_at-lt}
use Rattle.bz_bits.proofs.Words.{table}
use Rattle.bz_bits.proofs.word.ready_ports.Goals as goal

pub returns : goal.returns
returns c i lt =
    let d = c.args.due in let o = c.args.opened in let a = c.args.active in let h = c.args.here in
    ap (λ (x : ℕ). x == 1) (bit_at_and d (bit_or h (bit_xor a o)) i
    ∙ ap (λ (x : ℕ). min (bit_at d i) x) (bit_at_or h (bit_xor a o) i
    ∙ ap (λ (x : ℕ). max (bit_at h i) x) (bit_at_xor a o i)))
    ∙ table (bit_at d i) (bit_at o i) (bit_at a i) (bit_at h i) (bit_at-lt d i) (bit_at-lt o i) (bit_at-lt a i) (bit_at-lt h i)
