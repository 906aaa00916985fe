use Rattle.std.proofs.Common.{List, take}
use Rattle.std.specs.List.{All}
use Rattle.bz_model.specs.declared.event.Entry.{Entry}
use Rattle.bz_locked.specs.Closing.{ShareAgrees}
use Rattle.bz_locked.specs.Counting.{HaveFired}
use Rattle.bz_locked.proofs.counting.have_fired.Given as goal

abbrev pub invariant-loop-worker : goal.invariant-loop-worker
invariant-loop-worker g l = (journal : List Entry) → HaveFired journal l.fired → All (ShareAgrees journal) (take l.worker-index l.workers)
