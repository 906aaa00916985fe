use Rattle.std.proofs.Common.{◌<◌, ◌/◌, ◌%◌, ◌==◌, ℕ, Bool, List, false, length, get_or, sym, ap, ◌∙◌, arith}
use Rattle.std.proofs.lemmas.List.{get_or_read}
use Rattle.std.proofs.lemmas.Nat.Bits.{shr_and_one}
use Rattle.bz_bits.proofs.Rows.{length-bits, get_or-bits, word_in}
use Rattle.std.specs.Int.{bit_at}
use Rattle.bz_bits.proofs.row.BitRow.get.Goals as goal

pub index-requires : goal.index-requires
index-requires g c =
    let words = c.self.inside.words.items in let n = c.self.inside.len in
    let lt : c.args.place < n = omega (arith, length-bits words n, ap length c.self.view_is) in
    omega (arith, word_in words n c.self.invariant c.args.place lt, c.self.inside.words.ok)

pub returns : goal.returns
returns g c =
    let words = c.self.inside.words.items in let n = c.self.inside.len in let k = c.args.place in
    let lt : k < n = omega (arith, length-bits words n, ap length c.self.view_is) in
    ap (λ (x : ℕ). x == 1) (shr_and_one c.index.result.now (k % 64) ∙ ap (λ (w : ℕ). bit_at w (k % 64)) (get_or_read words (k / 64) c.index.result.now (word_in words n c.self.invariant k lt) c.index.ensures 0))
    ∙ sym (get_or-bits words n k false lt) ∙ ap (λ (l : List Bool). get_or l k false) c.self.view_is
