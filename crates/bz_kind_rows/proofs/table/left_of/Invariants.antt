use Rattle.std.proofs.Common.{◌≡◌, drop}
use Rattle.bz_model.specs.Rows.{widths}
use Rattle.bz_kind_rows.specs.Table.{left_of}
use Rattle.bz_kind_rows.proofs.table.left_of.Given as goal

abbrev pub invariant-loop-chan : goal.invariant-loop-chan
invariant-loop-chan l = left_of l.whole (widths l.chans) ≡ left_of l.left (widths (drop l.chan-index l.chans))
