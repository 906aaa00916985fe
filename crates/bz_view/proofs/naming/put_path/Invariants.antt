use Rattle.bz_text.specs.Growing.{GrowsBy}
use Rattle.bz_view.specs.Lines.{InLine}
use Rattle.bz_view.proofs.naming.put_path.Given as goal

abbrev pub invariant-loop-step : goal.invariant-loop-step
invariant-loop-step l = GrowsBy InLine l.fn.text l.text
