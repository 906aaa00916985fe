-- Lines of a text, counted on.
use Rattle.std.proofs.Common.{◌≡◌, ℕ, ◌+◌, ◌-◌, ◌≤◌, List, take, drop, arith, ap, ◌∙◌, cond, ◌==◌}
use Rattle.std.proofs.Math.Seq.{take-add}
use Rattle.std.proofs.lemmas.List.Sums.{sum_by-append}
use Rattle.bz_source.specs.Lines.{feeds}

-- the feeds before b are those before a and those between
pub feeds_on : (text : List ℕ) (a b : ℕ) → a ≤ b → feeds (take b text) ≡ feeds (take a text) + feeds (take (b - a) (drop a text))
feeds_on text a b le =
    let e : b ≡ a + (b - a) = omega arith in
    ap (λ n. feeds (take n text)) e ∙ ap feeds (take-add a (b - a) text) ∙ sum_by-append (λ x. cond (x == 10) 1 0) (take a text) (take (b - a) (drop a text))
