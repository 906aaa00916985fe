use Rattle.std.specs.Option.{option_copied}
use Rattle.bz_cli_bench.proofs.opened.Opened.of.Goals as goal

pub invariant_of-result : goal.invariant_of-result
invariant_of-result c = (c.args.text.now, option_copied c.args.asked, c.in_ok-flat.ensures.net)
