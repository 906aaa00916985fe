use Rattle.std.proofs.Common.{◌<◌, Bool, List, true, length, set, ap, ◌∙◌, arith}
use Rattle.bz_bits.proofs.Rows.{length-bits, word_in, raised}
use Rattle.bz_bits.proofs.row.BitRow.raise.Goals as goal

pub index_mut-word-requires : goal.index_mut-word-requires
index_mut-word-requires g c =
    let words = c.self.inside.words.items in let n = c.self.inside.len in
    let lt : c.args.place < n = omega (arith, length-bits words n, ap length c.self.view_is) in
    omega (arith, word_in words n c.self.invariant c.args.place lt, c.self.inside.words.ok)

pub invariant_of-self : goal.invariant_of-self
invariant_of-self g c =
    let words = c.self.inside.words.items in let n = c.self.inside.len in
    let lt : c.args.place < n = omega (arith, length-bits words n, ap length c.self.view_is) in
    (raised words n c.self.invariant c.args.place lt c.index_mut-word.result.now c.index_mut-word.ensures.value).0

pub returns : goal.returns
returns g c =
    let words = c.self.inside.words.items in let n = c.self.inside.len in
    let lt : c.args.place < n = omega (arith, length-bits words n, ap length c.self.view_is) in
    (raised words n c.self.invariant c.args.place lt c.index_mut-word.result.now c.index_mut-word.ensures.value).1 ∙ ap (λ (l : List Bool). set l c.args.place true) c.self.view_is
