use Rattle.std.proofs.Common.{◌≡◌}
use Rattle.bz_cli_bench.proofs.playing.Session.play_all.Given as goal

abbrev pub invariant-loop-place : goal.invariant-loop-place
invariant-loop-place l = record {
  wiring : l.self.stepping.net.wiring ≡ l.fn.self.stepping.net.wiring;
  plan : l.self.plan.now ≡ l.fn.self.plan.now;
}
