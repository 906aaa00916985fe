use Rattle.std.proofs.Common.{rules, ◌≡◌, ◌+◌, ◌-◌, ◌*◌, ◌/◌, ◌<◌, ◌≤◌, ◌∙◌, suc, List, Bool, length, ap, subst, sym, arith}
use Rattle.std.proofs.lemmas.Grind.{get_or_default_zero}
use Rattle.bz_net.specs.Keeping.{IsMarked}
use Rattle.bz_explore_net.specs.Counted.{leaf_of, sum_at}
use Rattle.bz_explore_net.specs.Picking.{HasMembers, IsPlace}
use Rattle.bz_explore_net.proofs.Picked.{members_sole}
use Rattle.bz_explore_net.proofs.Counting.{Searches, begins, count_is, found, goes_left, goes_right, in_tree, leaf_twice}
use Rattle.bz_explore_net.proofs.counted.CountedRow.nth.Goals as goal
use Rattle.bz_explore_net.proofs.counted.CountedRow.nth.Goals.{then-here-left, else-here-left}

pub returns-then-count-before-clause-none : goal.returns-then-count-before-clause-none
returns-then-count-before-clause-none c = λ count has.
    let same = members_sole (IsMarked c.args.self.now) count c.count.result has c.count.ensures in let le = c.if-count-before.true in
    omega (arith, same, le)

pub loop-init : goal.loop-init
loop-init c =
    let row = c.self.inside.bits.items in let sums = c.self.inside.sums.items in let levels = c.self.inside.levels in
    let all = count_is row sums levels c.self.invariant in
    let told = subst (λ (bits : List Bool). HasMembers (IsMarked bits) c.count.result) (sym c.self.view_is) c.count.ensures in
    let same = members_sole (IsMarked row) (sum_at sums 1) c.count.result all told in
    let more = c.if-count-before.false in
    let whole : levels ≡ levels - 0 = omega arith in
    subst (λ h. Searches row sums levels c.args.before h 1 c.args.before) whole (begins row sums levels c.args.before c.self.invariant (omega (arith, same, more)))

pub index-here-requires : goal.index-here-requires
index-here-requires c =
    let row = c.self.inside.bits.items in let sums = c.self.inside.sums.items in let levels = c.self.inside.levels in
    let lt = c.loop-test.true in
    let h = levels - (c.loop.counter + 1) in
    let step : levels - c.loop.counter ≡ suc h = omega (arith, lt) in
    let at = subst (λ n. Searches row sums levels c.args.before n c.loop.node c.loop.left) step c.loop.invariant in
    let inside = in_tree row sums levels c.args.before c.self.invariant h c.loop.node c.loop.left at in
    let nodes = c.self.invariant.nodes in
    let below : c.loop.node * 2 < length sums = omega (arith, inside, nodes) in
    search rules

pub loop-preserved : goal.loop-preserved
loop-preserved c =
    let row = c.self.inside.bits.items in let sums = c.self.inside.sums.items in let levels = c.self.inside.levels in
    let lt = c.loop-test.true in
    let h = levels - (c.loop.counter + 1) in
    let step : levels - c.loop.counter ≡ suc h = omega (arith, lt) in
    let at = subst (λ n. Searches row sums levels c.args.before n c.loop.node c.loop.left) step c.loop.invariant in
    let inside = in_tree row sums levels c.args.before c.self.invariant h c.loop.node c.loop.left at in
    let nodes = c.self.invariant.nodes in
    let twice : c.loop.node * 2 ≡ 2 * c.loop.node = omega arith in
    let value : c.index-here.result.now ≡ sum_at sums (2 * c.loop.node) =
    c.index-here.ensures ∙ get_or_default_zero sums (c.loop.node * 2) c.index-here.result.now (omega (arith, inside, nodes)) ∙ ap (sum_at sums) twice in
    elim c.if-here-left.branch [
      | then-here-left w ↦
          let le = w.if-here-left.true in
          let right = goes_right row sums levels c.args.before c.self.invariant h c.loop.node c.loop.left at (omega (arith, le, value)) in
          rw (w.node-is, w.left-is, value) (subst (λ n. Searches row sums levels c.args.before h (n + 1) (c.loop.left - sum_at sums (2 * c.loop.node))) (sym twice) right)
      | else-here-left w ↦
          let more = w.if-here-left.false in
          let left = goes_left row sums levels c.args.before c.self.invariant h c.loop.node c.loop.left at (omega (arith, more, value)) in
          rw (w.node-is, w.left-is) (subst (λ n. Searches row sums levels c.args.before h n c.loop.left) (sym twice) left)
    ]

pub overflow_sub-result : goal.overflow_sub-result
overflow_sub-result c =
    let levels = c.self.inside.levels in
    let done = c.loop-test.false in
    let none : levels - c.loop.counter ≡ 0 = omega (arith, done) in
    let at = subst (λ n. Searches c.self.inside.bits.items c.self.inside.sums.items levels c.args.before n c.loop.node c.loop.left) none c.loop.invariant in
    let nodes = c.self.invariant.nodes in let twice = leaf_twice levels 1 in let from = at.from in
    let half : length c.self.inside.sums.items / 2 ≤ c.loop.node = omega (arith, nodes, twice, from) in
    search rules

pub returns-clause-some : goal.returns-clause-some
returns-clause-some c =
    let row = c.self.inside.bits.items in let sums = c.self.inside.sums.items in let levels = c.self.inside.levels in
    let done = c.loop-test.false in
    let none : levels - c.loop.counter ≡ 0 = omega (arith, done) in
    let at = subst (λ n. Searches row sums levels c.args.before n c.loop.node c.loop.left) none c.loop.invariant in
    let nodes = c.self.invariant.nodes in let twice = leaf_twice levels 1 in
    let half : leaf_of 1 levels ≡ length sums / 2 = omega (arith, nodes, twice) in
    let place = found row sums levels c.args.before c.self.invariant c.loop.node c.loop.left at in
    let there : leaf_of 1 levels ≡ c.len.result / 2 = search rules in
    subst (λ (bits : List Bool). IsPlace (IsMarked bits) c.args.before (c.loop.node - c.len.result / 2)) c.self.view_is
    (subst (λ n. IsPlace (IsMarked row) c.args.before (c.loop.node - n)) there place)

pub overflow_cast-result : goal.overflow_cast-result
overflow_cast-result c =
    let levels = c.self.inside.levels in
    let done = c.loop-test.false in
    let none : levels - c.loop.counter ≡ 0 = omega (arith, done) in
    let at = subst (λ n. Searches c.self.inside.bits.items c.self.inside.sums.items levels c.args.before n c.loop.node c.loop.left) none c.loop.invariant in
    let twice = leaf_twice levels 1 in let to = at.to in let few : leaf_of 1 levels ≤ 1073741824 = c.self.invariant.few in
    let small : c.loop.node < 4294967296 = omega (arith, to, twice, few) in
    let fits : c.loop.node - c.len.result / 2 < 4294967296 = omega (arith, small) in
    search rules
