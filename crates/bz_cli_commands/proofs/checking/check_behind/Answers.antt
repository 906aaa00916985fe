use Rattle.std.specs.Option.{option_copied}
use Rattle.bz_cli_commands.proofs.Found.{trace_missed, trace_there}
use Rattle.bz_cli_commands.proofs.checking.check_behind.Goals as goal

pub returns-then-misses_trace : goal.returns-then-misses_trace
returns-then-misses_trace g c =
    trace_missed c.args.is_file c.args.way c.args.texts.now.netlist c.args.texts.now.trace (option_copied c.args.part) _ _ c.if-misses_trace.ensures.0 c.if-misses_trace.ensures.1 c.of.ensures

pub returns : goal.returns
returns g c =
    trace_there c.args.is_file c.args.way c.args.texts.now.netlist c.args.texts.now.trace (option_copied c.args.part) _ _ _ c.if-misses_trace.ensures (rw (c.both.ensures.netlist, c.both.ensures.trace) at c.check_on.ensures)
