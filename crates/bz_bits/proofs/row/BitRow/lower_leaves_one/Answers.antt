use Rattle.std.proofs.Common.{◌<◌, ◌/◌, Bool, List, false, length, set, sym, ap, ◌∙◌, arith}
use Rattle.std.proofs.lemmas.List.{get_or-set_same}
use Rattle.bz_bits.proofs.Rows.{length-bits, word_in, lowered, has_one}
use Rattle.bz_bits.proofs.row.BitRow.lower_leaves_one.Goals as goal

pub index_mut-word-requires : goal.index_mut-word-requires
index_mut-word-requires g c =
    let words = c.self.inside.words.items in let n = c.self.inside.len in
    let lt : c.args.place < n = omega (arith, length-bits words n, ap length c.self.view_is) in
    omega (arith, word_in words n c.self.invariant c.args.place lt, c.self.inside.words.ok)

pub invariant_of-self : goal.invariant_of-self
invariant_of-self g c =
    let words = c.self.inside.words.items in let n = c.self.inside.len in
    let lt : c.args.place < n = omega (arith, length-bits words n, ap length c.self.view_is) in
    (lowered words n c.self.invariant c.args.place lt c.index_mut-word.result.now c.index_mut-word.ensures.value).0

pub returns-clause-lowered : goal.returns-clause-lowered
returns-clause-lowered g c =
    let words = c.self.inside.words.items in let n = c.self.inside.len in
    let lt : c.args.place < n = omega (arith, length-bits words n, ap length c.self.view_is) in
    (lowered words n c.self.invariant c.args.place lt c.index_mut-word.result.now c.index_mut-word.ensures.value).1 ∙ ap (λ (l : List Bool). set l c.args.place false) c.self.view_is

pub returns-clause-told : goal.returns-clause-told
returns-clause-told g c =
    let words = c.self.inside.words.items in let n = c.self.inside.len in let place = c.args.place in
    let lt : place < n = omega (arith, length-bits words n, ap length c.self.view_is) in
    let row = (lowered words n c.self.invariant place lt c.index_mut-word.result.now c.index_mut-word.ensures.value).0 in
    has_one _ n (place / 64) _ row (sym (get_or-set_same words (place / 64) _ 0 (word_in words n c.self.invariant place lt)))
