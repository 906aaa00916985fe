use Rattle.std.proofs.Common.{◌≡◌, ◌≤◌, length, map, drop, reverse}
use Rattle.bz_sexpr.specs.Views.{datum_view}
use Rattle.bz_sexpr.specs.Nodes.{forest}
use Rattle.bz_sexpr.proofs.tree.tree.Given as goal

abbrev pub invariant-loop-left : goal.invariant-loop-left
invariant-loop-left l = record {
  within : l.left ≤ length l.forest.nodes;
  behind : forest l.forest.text.now (drop l.left l.forest.nodes) ≡ map datum_view (reverse l.made.items);
}

abbrev pub decreases-loop-left : goal.decreases-loop-left
decreases-loop-left l = l.left
