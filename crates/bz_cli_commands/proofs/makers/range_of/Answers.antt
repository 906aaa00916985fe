use Rattle.std.proofs.Common.{refl}
use Rattle.bz_cli_commands.proofs.makers.range_of.Goals as goal

pub returns : goal.returns
returns c = rw (c.place_of.ensures, c.place_of-2.ensures, c.is_picked.ensures) refl
