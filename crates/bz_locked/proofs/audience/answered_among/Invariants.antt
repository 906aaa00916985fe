use Rattle.std.proofs.Common.{◌≡◌, length}
use Rattle.bz_locked.specs.Audiences.{is_left}
use Rattle.bz_locked.proofs.Marked.{MarksFirst}
use Rattle.bz_locked.proofs.audience.answered_among.Given as goal

abbrev pub invariant-loop-place : goal.invariant-loop-place
invariant-loop-place l = (length l.answered ≡ 16) × MarksFirst (is_left l.net.state l.chan) l.sessions l.answered l.place
