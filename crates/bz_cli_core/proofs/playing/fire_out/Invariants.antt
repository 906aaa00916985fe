use Rattle.std.proofs.Common.{◌≡◌, ◌≤◌, ◌-◌, suc, length}
use Rattle.bz_model.specs.declared.event.Who.TheVariants as who
use Rattle.bz_net.specs.Running.{Plays}
use Rattle.bz_cli_core.specs.Sending.{RunsOut}
use Rattle.bz_cli_core.proofs.playing.fire_out.Given as goal

-- all firings up to what the journal still lets in
abbrev pub invariant-loop-now : goal.invariant-loop-now
invariant-loop-now g l = record {
  runs : RunsOut l.fn.play l.play (g.W.Write.contents l.fn.out) l.fn.lines (g.W.Write.contents l.out) l.lines (λ old new. Plays old new (who.Worker 1) 1 (l.had - l.now) (suc l.last));
  left : l.play.left ≡ l.now;
  had : l.had ≡ l.fn.play.left;
  fewer : l.now ≤ l.had;
  end : l.end ≤ l.now;
  within : l.last ≤ length l.play.wiring.sites;
}

abbrev pub decreases-loop-now : goal.decreases-loop-now
decreases-loop-now g l = l.now - l.end
