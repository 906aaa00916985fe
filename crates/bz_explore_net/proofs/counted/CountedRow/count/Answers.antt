use Rattle.std.proofs.Common.{rules, ◌≡◌, ◌∙◌, List, Bool, subst, sym, arith}
use Rattle.std.proofs.lemmas.Grind.{get_or_default_zero}
use Rattle.bz_net.specs.Keeping.{IsMarked}
use Rattle.bz_explore_net.specs.Counted.{sum_at}
use Rattle.bz_explore_net.specs.Picking.{HasMembers}
use Rattle.bz_explore_net.proofs.Counting.{count_is, has_top}
use Rattle.bz_explore_net.proofs.counted.CountedRow.count.Goals as goal

pub index-requires : goal.index-requires
index-requires c =
    let nodes = c.self.invariant.nodes in let top = has_top c.self.inside.levels in
    search rules

pub returns : goal.returns
returns c =
    let nodes = c.self.invariant.nodes in let top = has_top c.self.inside.levels in
    let sums = c.self.inside.sums.items in
    let value : c.index.result.now ≡ sum_at sums 1 = c.index.ensures ∙ get_or_default_zero sums 1 c.index.result.now (omega (arith, nodes, top)) in
    subst (λ (row : List Bool). HasMembers (IsMarked row) c.index.result.now) c.self.view_is
    (subst (λ n. HasMembers (IsMarked c.self.inside.bits.items) n) (sym value) (count_is c.self.inside.bits.items sums c.self.inside.levels c.self.invariant))
