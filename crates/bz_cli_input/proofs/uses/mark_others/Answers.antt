use Rattle.std.proofs.Common.{refl}
use Rattle.bz_cli_input.proofs.Users.{marks_others}
use Rattle.bz_cli_input.proofs.uses.mark_others.Goals as goal

pub returns : goal.returns
returns c = marks_others c.args.parts.now c.args.user c.args.part.now c.args.used.now c.mark_used.new.used _ c.requires refl c.mark_used.ensures
