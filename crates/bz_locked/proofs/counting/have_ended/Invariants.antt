use Rattle.std.proofs.Common.{List, take}
use Rattle.std.specs.List.{All}
use Rattle.bz_model.specs.declared.event.Entry.{Entry}
use Rattle.bz_locked.specs.Closing.{RecordAgrees}
use Rattle.bz_locked.specs.Counting.{HaveMet}
use Rattle.bz_locked.proofs.counting.have_ended.Given as goal

abbrev pub invariant-loop-place : goal.invariant-loop-place
invariant-loop-place l = (journal : List Entry) → HaveMet l.sessions journal l.met → All (RecordAgrees journal) (take l.place l.sessions)
