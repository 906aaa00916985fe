use Rattle.std.specs.Option.{option_copied}
use Rattle.bz_cli_commands.proofs.Found.{checked_on}
use Rattle.bz_cli_commands.proofs.checking.check_on.Goals as goal

pub returns-then-not-covers : goal.returns-then-not-covers
returns-then-not-covers g c =
    checked_on c.args.way c.args.netlist.now (option_copied c.args.part) _ c.of.result _ _ _ c.of.ensures.ok c.of.ensures.err c.told.ensures

pub returns : goal.returns
returns g c =
    rw c.counted.ensures (checked_on c.args.way c.args.netlist.now (option_copied c.args.part) _ c.of-case.result _ _ _ c.of-case.ensures.ok c.of-case.ensures.err c.told-2.ensures)
