use Rattle.std.proofs.Common.{◌≡◌, ◌<◌, ◌-◌, ◌^◌, ℕ, subst, arith, length, drop, take}
use Rattle.std.proofs.lemmas.List.{length-drop, take_all}
use Rattle.bz_bits.proofs.Words.{lowest_on}
use Rattle.bz_bits.proofs.numbers.lowest_from.Goals as goal

pub returns : goal.returns
returns c =
    let ws = c.args.words.now in let start = c.args.start in let rest = drop start ws in
    let whole : take (length ws - start) rest ≡ rest = take_all (length ws - start) rest (omega (arith, length-drop start ws)) in
    lowest_on ws start c.count_even.result c.requires.few c.requires.even (rw whole at c.count_even.ensures.within) (rw whole at c.count_even.ensures.even)
    (rw whole at c.count_even.ensures.stops) (subst (λ (x : ℕ). x < 2 ^ 64) c.odd_at-odd.ensures c.odd_at-odd.type_inv)
