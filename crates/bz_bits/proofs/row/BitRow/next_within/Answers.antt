use Rattle.std.proofs.Common.{◌≡◌, ◌<◌, ◌+◌, ◌*◌, ◌/◌, ℕ, Bool, List, Some, None, length, get_or, ap, ◌∙◌, subst, arith}
use Rattle.std.proofs.lemmas.List.{get_or_read}
use Rattle.std.specs.Int.{bit_at, trailing_zeros, w64}
use Rattle.bz_bits.specs.Row.{IsNextInWord}
use Rattle.bz_bits.proofs.Rows.{length-bits, word_in, none_found, first_found}
use Rattle.bz_bits.proofs.row.BitRow.next_within.Goals as goal

pub returns-then-found-eq0 : goal.returns-then-found-eq0
returns-then-found-eq0 g c =
    let words = c.self.inside.words.items in let n = c.self.inside.len in let from = c.args.from in let w = c.index.result.now in
    let lt : from < n = omega (arith, length-bits words n, ap length c.self.view_is) in
    let is : w ≡ get_or words (from / 64) 0 = get_or_read words (from / 64) w (word_in words n c.self.invariant from lt) c.index.ensures 0 in
    subst (λ (l : List Bool). IsNextInWord l from None) c.self.view_is
    (none_found words n c.self.invariant from c.above-found.result c.above-found.ensures.below (λ i le. c.above-found.ensures.rest i le ∙ ap (λ (x : ℕ). bit_at x i) is) c.if-found-eq0.true)

pub returns : goal.returns
returns g c =
    let words = c.self.inside.words.items in let n = c.self.inside.len in let from = c.args.from in let w = c.index.result.now in
    let lt : from < n = omega (arith, length-bits words n, ap length c.self.view_is) in
    let found = c.above-found.result in
    let is : w ≡ get_or words (from / 64) 0 = get_or_read words (from / 64) w (word_in words n c.self.invariant from lt) c.index.ensures 0 in
    subst (λ (l : List Bool). IsNextInWord l from (Some (from / 64 * 64 + trailing_zeros w64 found))) c.self.view_is
    (first_found words n c.self.invariant from found c.above-found.ensures.below (λ i le. c.above-found.ensures.rest i le ∙ ap (λ (x : ℕ). bit_at x i) is) c.above-found.type_inv (omega (arith, c.if-found-eq0.false)))

pub index-requires : goal.index-requires
index-requires g c =
    let words = c.self.inside.words.items in let n = c.self.inside.len in
    let lt : c.args.from < n = omega (arith, length-bits words n, ap length c.self.view_is) in
    omega (arith, word_in words n c.self.invariant c.args.from lt, c.self.inside.words.ok)
