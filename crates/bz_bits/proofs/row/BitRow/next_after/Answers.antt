use Rattle.std.proofs.Common.{◌≡◌, ◌<◌, ◌+◌, ◌*◌, ◌/◌, ℕ, Bool, List, Some, None, length, get_or, ap, ◌∙◌, subst, arith}
use Rattle.std.proofs.lemmas.List.{get_or_read}
use Rattle.std.specs.Int.{bit_at, trailing_zeros, w64}
use Rattle.bz_bits.specs.Row.{IsNextAfter}
use Rattle.bz_bits.proofs.Rows.{length-bits, word_in, none_above, first_above}
use Rattle.bz_bits.proofs.row.BitRow.next_after.Goals as goal

pub returns-then-found-eq0 : goal.returns-then-found-eq0
returns-then-found-eq0 g c =
    let words = c.self.inside.words.items in let n = c.self.inside.len in let place = c.args.place in let w = c.index.result.now in
    let lt : place < n = omega (arith, length-bits words n, ap length c.self.view_is, c.requires) in
    let is : w ≡ get_or words (place / 64) 0 = get_or_read words (place / 64) w (word_in words n c.self.invariant place lt) c.index.ensures 0 in
    subst (λ (l : List Bool). IsNextAfter l place None) c.self.view_is
    (none_above words n c.self.invariant place c.past-found.result c.past-found.ensures.before (λ i le. c.past-found.ensures.rest i le ∙ ap (λ (x : ℕ). bit_at x i) is) c.if-found-eq0.true)

pub returns : goal.returns
returns g c =
    let words = c.self.inside.words.items in let n = c.self.inside.len in let place = c.args.place in let w = c.index.result.now in
    let lt : place < n = omega (arith, length-bits words n, ap length c.self.view_is, c.requires) in
    let found = c.past-found.result in
    let is : w ≡ get_or words (place / 64) 0 = get_or_read words (place / 64) w (word_in words n c.self.invariant place lt) c.index.ensures 0 in
    subst (λ (l : List Bool). IsNextAfter l place (Some (place / 64 * 64 + trailing_zeros w64 found))) c.self.view_is
    (first_above words n c.self.invariant place found c.past-found.ensures.before (λ i le. c.past-found.ensures.rest i le ∙ ap (λ (x : ℕ). bit_at x i) is) c.past-found.type_inv (omega (arith, c.if-found-eq0.false)))

pub index-requires : goal.index-requires
index-requires g c =
    let words = c.self.inside.words.items in let n = c.self.inside.len in
    let lt : c.args.place < n = omega (arith, length-bits words n, ap length c.self.view_is, c.requires) in
    omega (arith, word_in words n c.self.invariant c.args.place lt, c.self.inside.words.ok)
