use Rattle.std.proofs.Common.{◌≡◌}
use Rattle.bz_cli_bench.proofs.playing.Session.begin_groups.Given as goal

abbrev pub invariant-loop-group : goal.invariant-loop-group
invariant-loop-group l = record {
  wiring : l.self.stepping.net.wiring ≡ l.fn.self.stepping.net.wiring;
  plan : l.self.plan.now ≡ l.fn.self.plan.now;
}
