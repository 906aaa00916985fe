use Rattle.bz_explore_net.specs.Waiting.{AreBusy}
use Rattle.bz_explore_net.proofs.busy.busy_chans.Given as goal

abbrev pub invariant-loop-place : goal.invariant-loop-place
invariant-loop-place l = AreBusy l.net.state l.place l.busy.items
