use Rattle.std.proofs.Common.{◌≡◌}
use Rattle.bz_cli_bench.proofs.playing.Session.look_at_group.Given as goal

abbrev pub invariant-loop-port : goal.invariant-loop-port
invariant-loop-port l = record {
  wiring : l.self.stepping.net.wiring ≡ l.fn.self.stepping.net.wiring;
  plan : l.self.plan.now ≡ l.fn.self.plan.now;
}
