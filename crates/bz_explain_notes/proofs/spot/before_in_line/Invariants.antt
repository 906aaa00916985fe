use Rattle.std.proofs.Common.{◌≡◌, ◌≤◌, ◌+◌, ◌-◌, length, take}
use Rattle.std.specs.List.{suffix_len}
use Rattle.bz_explain_notes.specs.Columns.{within_line}
use Rattle.bz_explain_notes.proofs.spot.before_in_line.Given as goal

-- the bytes from `start` on are within the line
abbrev pub invariant-loop-start : goal.invariant-loop-start
invariant-loop-start l = record {
  within : l.start ≤ length l.front;
  counted : suffix_len within_line l.front ≡ (length l.front - l.start) + suffix_len within_line (take l.start l.front);
}

abbrev pub decreases-loop-start : goal.decreases-loop-start
decreases-loop-start l = l.start
