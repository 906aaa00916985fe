use Rattle.std.proofs.Common.{rules, ◌≡◌, ◌+◌, ◌-◌, ◌*◌, ◌/◌, ◌<◌, ◌∙◌, suc, List, Bool, length, refl, ap, subst, arith}
use Rattle.std.specs.Prelude.{slice_set}
use Rattle.std.specs.Int.{from_bool}
use Rattle.std.proofs.lemmas.Grind.{get_or_default_zero}
use Rattle.std.proofs.lemmas.List.{length-set}
use Rattle.bz_explore_net.specs.Counted.{leaf_of, sum_at}
use Rattle.bz_explore_net.proofs.Counting.{Mends, below_in, fits, is_leaf, leaf_changed, leaf_twice, mended, mended_all}
use Rattle.bz_explore_net.proofs.counted.CountedRow.set.Goals as goal

pub index_mut-requires-2 : goal.index_mut-requires-2
index_mut-requires-2 c =
    let row = c.self.inside.bits.items in let sums = c.self.inside.sums.items in let levels = c.self.inside.levels in
    let lt : c.args.place < length row = search rules in
    let leaf = is_leaf row sums levels c.args.place c.args.bit c.self.invariant lt in
    let nodes = c.self.invariant.nodes in let twice = leaf_twice levels 1 in
    let half : leaf_of 1 levels ≡ length sums / 2 = omega (arith, nodes, twice) in
    search rules

pub loop-init : goal.loop-init
loop-init c =
    let row = c.self.inside.bits.items in let sums = c.self.inside.sums.items in let levels = c.self.inside.levels in
    let lt : c.args.place < length row = search rules in
    let nodes = c.self.invariant.nodes in let twice = leaf_twice levels 1 in
    let half : leaf_of 1 levels ≡ length sums / 2 = omega (arith, nodes, twice) in
    let there : leaf_of 1 levels ≡ c.len-2.result / 2 = search rules in
    let whole : levels ≡ levels - 0 = omega arith in
    let begun = leaf_changed row sums levels c.args.place c.args.bit c.self.invariant lt in
    let room = c.self.invariant.room in
    let long : length (slice_set row c.args.place c.args.bit) ≡ length row = length-set row c.args.place c.args.bit in
    record {
      mends = rw (c.from.ensures) (subst (λ h. Mends (slice_set row c.args.place c.args.bit) (slice_set sums (c.len-2.result / 2 + c.args.place) (from_bool c.args.bit)) levels 0 h (c.len-2.result / 2 + c.args.place)) whole
          (subst (λ n. Mends (slice_set row c.args.place c.args.bit) (slice_set sums (n + c.args.place) (from_bool c.args.bit)) levels 0 levels (n + c.args.place)) there begun));
      bits = ap (λ (bits : List Bool). slice_set bits c.args.place c.args.bit) c.self.view_is;
      few = c.self.invariant.few;
      room = omega (arith, room, long);
      all = refl;
      within = omega arith;
    }

pub invariant_of-self : goal.invariant_of-self
invariant_of-self c =
    let inv = c.loop.invariant in let i = c.loop.self-inside in
    let done = c.loop-test.false in let all = inv.all in let within = inv.within in
    let end : c.loop.counter ≡ i.levels = omega (arith, done, all, within) in
    let none : i.levels - c.loop.counter ≡ 0 = omega (arith, end) in
    mended_all i.bits.items i.sums.items i.levels c.loop.node inv.few inv.room
    (subst (λ n. Mends i.bits.items i.sums.items i.levels n 0 c.loop.node) end (subst (λ n. Mends i.bits.items i.sums.items i.levels c.loop.counter n c.loop.node) none inv.mends))

pub index-requires : goal.index-requires
index-requires c =
    let inv = c.loop.invariant in let i = c.loop.self-inside in
    let lt = c.loop-test.true in let all = inv.all in
    let step : i.levels - c.loop.counter ≡ suc (i.levels - (c.loop.counter + 1)) = omega (arith, lt, all) in
    let at = subst (λ n. Mends i.bits.items i.sums.items i.levels c.loop.counter n c.loop.node) step inv.mends in
    let below = below_in i.bits.items i.sums.items i.levels c.loop.counter (i.levels - (c.loop.counter + 1)) c.loop.node inv.few at in
    let here : 2 * (c.loop.node / 2) < length i.sums.items = omega (arith, below) in
    search rules

pub index-requires-in-loop : goal.index-requires-in-loop
index-requires-in-loop c =
    let inv = c.loop.invariant in let i = c.loop.self-inside in
    let lt = c.loop-test.true in let all = inv.all in
    let step : i.levels - c.loop.counter ≡ suc (i.levels - (c.loop.counter + 1)) = omega (arith, lt, all) in
    let at = subst (λ n. Mends i.bits.items i.sums.items i.levels c.loop.counter n c.loop.node) step inv.mends in
    let below = below_in i.bits.items i.sums.items i.levels c.loop.counter (i.levels - (c.loop.counter + 1)) c.loop.node inv.few at in
    search rules

pub overflow_add-index : goal.overflow_add-index
overflow_add-index c =
    let inv = c.loop.invariant in let i = c.loop.self-inside in
    let lt = c.loop-test.true in let all = inv.all in
    let step : i.levels - c.loop.counter ≡ suc (i.levels - (c.loop.counter + 1)) = omega (arith, lt, all) in
    let at = subst (λ n. Mends i.bits.items i.sums.items i.levels c.loop.counter n c.loop.node) step inv.mends in
    let below = below_in i.bits.items i.sums.items i.levels c.loop.counter (i.levels - (c.loop.counter + 1)) c.loop.node inv.few at in
    let fit = fits i.bits.items i.sums.items i.levels c.loop.counter (i.levels - (c.loop.counter + 1)) c.loop.node inv.few at in
    let low = c.index.ensures ∙ get_or_default_zero i.sums.items (2 * (c.loop.node / 2)) c.index.result.now (omega (arith, below)) in
    let high = c.index-in-loop.ensures ∙ get_or_default_zero i.sums.items (2 * (c.loop.node / 2) + 1) c.index-in-loop.result.now below in
    let sum : c.index.result.now + c.index-in-loop.result.now < 4294967296 = omega (arith, fit, low, high) in
    search rules

pub index_mut-requires-in-loop : goal.index_mut-requires-in-loop
index_mut-requires-in-loop c =
    let inv = c.loop.invariant in let i = c.loop.self-inside in
    let lt = c.loop-test.true in let all = inv.all in
    let step : i.levels - c.loop.counter ≡ suc (i.levels - (c.loop.counter + 1)) = omega (arith, lt, all) in
    let at = subst (λ n. Mends i.bits.items i.sums.items i.levels c.loop.counter n c.loop.node) step inv.mends in
    let below = below_in i.bits.items i.sums.items i.levels c.loop.counter (i.levels - (c.loop.counter + 1)) c.loop.node inv.few at in
    let here : c.loop.node / 2 < length i.sums.items = omega (arith, below) in
    search rules

pub loop-preserved : goal.loop-preserved
loop-preserved c =
    let inv = c.loop.invariant in let i = c.loop.self-inside in
    let lt = c.loop-test.true in let all = inv.all in
    let step : i.levels - c.loop.counter ≡ suc (i.levels - (c.loop.counter + 1)) = omega (arith, lt, all) in
    let at = subst (λ n. Mends i.bits.items i.sums.items i.levels c.loop.counter n c.loop.node) step inv.mends in
    let below = below_in i.bits.items i.sums.items i.levels c.loop.counter (i.levels - (c.loop.counter + 1)) c.loop.node inv.few at in
    let low = c.index.ensures ∙ get_or_default_zero i.sums.items (2 * (c.loop.node / 2)) c.index.result.now (omega (arith, below)) in
    let high = c.index-in-loop.ensures ∙ get_or_default_zero i.sums.items (2 * (c.loop.node / 2) + 1) c.index-in-loop.result.now below in
    let sum : c.index.result.now + c.index-in-loop.result.now ≡ sum_at i.sums.items (2 * (c.loop.node / 2)) + sum_at i.sums.items (2 * (c.loop.node / 2) + 1) = omega (arith, low, high) in
    let next : suc c.loop.counter ≡ c.loop.counter + 1 = omega arith in
    record {
      mends = subst (λ n. Mends i.bits.items (slice_set i.sums.items (c.loop.node / 2) (c.index.result.now + c.index-in-loop.result.now)) i.levels n (i.levels - (c.loop.counter + 1)) (c.loop.node / 2)) next
          (mended i.bits.items i.sums.items i.levels c.loop.counter (i.levels - (c.loop.counter + 1)) c.loop.node inv.few at (c.index.result.now + c.index-in-loop.result.now) sum);
      bits = inv.bits;
      few = inv.few;
      room = inv.room;
      all = inv.all;
      within = omega (arith, lt, all);
    }
