use Rattle.std.proofs.Common.{ℕ, List, length, ◌≤◌}
use Rattle.bz_model.specs.declared.event.Entry.{Entry}
use Rattle.bz_model.specs.Nets.{Wiring}
use Rattle.bz_trace_text.specs.declared.text.TheConstants.{MAX_ENTRIES}
use Rattle.bz_trace.specs.Following.{FollowsText, GetsOn}
use Rattle.bz_trace.specs.Watching.{Shows}
use Rattle.bz_trace.proofs.foretelling.play_foretold.Given as goal

abbrev pub invariant-loop-followed : goal.invariant-loop-followed
invariant-loop-followed g l = record {
  follows : (w : Wiring) (past : List Entry) (before : List ℕ) → FollowsText l.fn.names w past l.fn.net before l.fn.text l.fn.from → FollowsText l.fn.names w past l.net before l.rest l.followed;
  gets_on : GetsOn l.fn.from l.followed l.fn.text l.rest;
  within : l.followed.count ≤ MAX_ENTRIES;
  shows : (w : Wiring) (past : List Entry) (before : List ℕ) → Shows g.S.Watch.behind l.fn.names w past l.fn.net before l.fn.text l.fn.from l.fn.watch → Shows g.S.Watch.behind l.fn.names w past l.net before l.rest l.followed l.watch;
}

abbrev pub decreases-loop-followed : goal.decreases-loop-followed
decreases-loop-followed g l = length l.rest
