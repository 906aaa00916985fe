use Rattle.std.proofs.Common.{◌≡◌}
use Rattle.bz_model.specs.Names.{numbered}
use Rattle.bz_source.specs.FileLines.{lines_of}
use Rattle.bz_source.proofs.file.line_in.Given as goal

abbrev pub invariant-loop-left : goal.invariant-loop-left
invariant-loop-left l = numbered (lines_of l.text) l.number ≡ numbered (lines_of l.rest) l.left

abbrev pub decreases-loop-left : goal.decreases-loop-left
decreases-loop-left l = l.left
