use Rattle.std.proofs.Common.{rules}
use Rattle.bz_cli_bench.proofs.setting.played.Goals as goal

pub returns-in-Ok-play : goal.returns-in-Ok-play
returns-in-Ok-play c = record {
  net = c.in-Ok.flat.wiring;
  netlist = search rules;
  streams = c.args.setting.plan.now.streams.items;
  each = search rules;
  spins = c.args.setting.plan.now.spins;
  entries = c.in-Ok-play.played.stepping.net.journal;
  state = c.in-Ok-play.played.stepping.net.state;
  run = c.in-Ok-play.ensures.run;
  judged = c.in-Ok-play.ensures.judged;
}
