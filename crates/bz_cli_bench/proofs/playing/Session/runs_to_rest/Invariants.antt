use Rattle.std.proofs.Common.{◌≡◌}
use Rattle.bz_cli_bench.proofs.playing.Session.runs_to_rest.Given as goal

abbrev pub invariant-loop : goal.invariant-loop
invariant-loop l = record {
  wiring : l.self.stepping.net.wiring ≡ l.fn.self.stepping.net.wiring;
  plan : l.self.plan.now ≡ l.fn.self.plan.now;
}
