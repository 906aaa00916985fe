use Rattle.std.proofs.Common.{◌≡◌, ◌≤◌, length}
use Rattle.bz_elab.specs.Totals.{AreTotals}
use Rattle.bz_elab.proofs.Totaling.{TotalUpTo}
use Rattle.bz_elab.proofs.totals.+total_of.Given as goal

abbrev pub decreases-total_of : goal.decreases-total_of
decreases-total_of l = l.depth

abbrev pub invariant-loop-component : goal.invariant-loop-component
invariant-loop-component l = record {
  upto : TotalUpTo l.parts l.part l.component-items l.component-index l.total;
  within : l.total.height ≤ l.depth;
  totals : AreTotals l.parts l.totals;
  len : length l.totals ≡ length l.fn.totals;
}
