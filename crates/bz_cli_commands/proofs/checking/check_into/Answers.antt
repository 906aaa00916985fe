use Rattle.std.proofs.Common.{false, true}
use Rattle.bz_cli_commands.specs.Programs.{way_asked}
use Rattle.bz_cli_commands.proofs.Found.{after_as, apart_as}
use Rattle.bz_cli_commands.proofs.checking.check_into.Goals as goal

pub returns-in-Some-clause-checks : goal.returns-in-Some-clause-checks
returns-in-Some-clause-checks g c =
    rw c.in-Some.is (apart_as c.way_of-apart.result (way_asked c.args.options true) _ _ _ _ _ _ c.way_of-apart.ensures.first c.way_of-apart.ensures.rest c.check_apart.ensures.checks)

pub returns-in-None-clause-checks : goal.returns-in-None-clause-checks
returns-in-None-clause-checks g c =
    rw c.in-None.is (rw c.is_some-is_file.ensures at (after_as c.is_some-is_file.result c.way_of-behind.result (way_asked c.args.options false) _ _ _ _ _ c.way_of-behind.ensures.first c.way_of-behind.ensures.rest c.check_after.ensures.checks))
