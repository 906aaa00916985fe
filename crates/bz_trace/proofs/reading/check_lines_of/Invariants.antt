use Rattle.std.proofs.Common.{◌+◌, ◌*◌, ◌-◌, length}
use Rattle.bz_trace.proofs.Showing.{HeldShown}
use Rattle.bz_trace.proofs.reading.check_lines_of.Given as goal

abbrev pub invariant-following : goal.invariant-following
invariant-following g l = HeldShown g.S.Watch.behind (g.R.Read.remaining l.initial.input) (g.R.Read.remaining l.input) l.fn.names l.fn.net.wiring l.fn.net l.net l.fn.front.items l.held.items l.followed l.fn.watch l.watch

abbrev pub decreases-following : goal.decreases-following
decreases-following g l = (16777216 - l.followed.count) * 67108865 + (67108865 - length l.held.items)
