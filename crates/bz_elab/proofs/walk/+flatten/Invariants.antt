use Rattle.std.proofs.Common.{◌≡◌, drop, length, map, ◌++◌}
use Rattle.bz_elab.specs.declared.reading.Item.TheVariants.{Leaf}
use Rattle.bz_elab.specs.Growth.{Within}
use Rattle.bz_elab.proofs.Items.{SoFar}
use Rattle.bz_elab.proofs.walk.+flatten.Given as goal

abbrev pub decreases-flatten : goal.decreases-flatten
decreases-flatten l = l.depth

abbrev pub invariant-loop-place : goal.invariant-loop-place
invariant-loop-place l = Within l.draft × SoFar l.parts l.part (drop l.depth l.levels) l.depth l.fn.draft l.draft (map Leaf (drop l.place l.reading.leaves) ++ l.reading.items.items)

abbrev pub invariant-loop-item : goal.invariant-loop-item
invariant-loop-item l = record {
  within : Within l.draft;
  so_far : SoFar l.parts l.part (drop l.depth l.fn.levels) l.depth l.fn.draft l.draft (drop l.item-index l.item-items);
  above : drop l.depth l.levels ≡ drop l.depth l.fn.levels;
  long : length l.levels ≡ length l.fn.levels;
}
