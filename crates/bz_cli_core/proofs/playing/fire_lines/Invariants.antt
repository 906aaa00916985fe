use Rattle.std.proofs.Common.{◌≤◌, ◌+◌, ◌*◌, ◌-◌, suc, length}
use Rattle.bz_model.specs.declared.event.Who.TheVariants as who
use Rattle.bz_net.specs.Running.{Plays}
use Rattle.bz_cli_core.specs.Sending.{RunsOut}
use Rattle.bz_cli_core.proofs.playing.fire_lines.Given as goal

-- so many firings so far, each with its entry and its line
abbrev pub invariant-loop-play : goal.invariant-loop-play
invariant-loop-play g l = record {
  runs : RunsOut l.fn.play l.play (g.W.Write.contents l.fn.out) l.fn.lines (g.W.Write.contents l.out) l.lines (λ old new. Plays old new (who.Worker 1) (suc l.fn.from) (l.fn.play.left - l.play.left) (suc l.last));
  fewer : l.play.left ≤ l.fn.play.left;
  stop : l.stop ≤ l.play.left;
  within : l.last ≤ length l.play.wiring.sites;
  room : length l.lines.page + 96 * (l.play.left - l.stop) ≤ 8192;
}

abbrev pub decreases-loop-play : goal.decreases-loop-play
decreases-loop-play g l = l.play.left - l.stop
