use Rattle.std.proofs.Common.{◌<◌, ◌≡◌, ◌/◌, Bool, List, length, get_or, nat_eq, not, ap, subst, arith}
use Rattle.std.proofs.lemmas.List.{get_or_read}
use Rattle.bz_bits.specs.Row.{HasOne}
use Rattle.bz_bits.proofs.Rows.{length-bits, word_in, has_one}
use Rattle.bz_bits.proofs.row.BitRow.has_one.Goals as goal

pub index-requires : goal.index-requires
index-requires g c =
    let words = c.self.inside.words.items in let n = c.self.inside.len in
    let lt : c.args.place < n = omega (arith, length-bits words n, ap length c.self.view_is) in
    omega (arith, word_in words n c.self.invariant c.args.place lt, c.self.inside.words.ok)

pub returns : goal.returns
returns g c =
    let words = c.self.inside.words.items in let n = c.self.inside.len in let place = c.args.place in let w = c.index.result.now in
    let lt : place < n = omega (arith, length-bits words n, ap length c.self.view_is) in
    let is : w ≡ get_or words (place / 64) 0 = get_or_read words (place / 64) w (word_in words n c.self.invariant place lt) c.index.ensures 0 in
    subst (λ (l : List Bool). HasOne l (place / 64) (not (nat_eq w 0))) c.self.view_is
    (has_one words n (place / 64) w c.self.invariant is)
