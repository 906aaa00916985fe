use Rattle.std.proofs.Common.{inr, refl, rules}
use Rattle.bz_cli_input.proofs.refusal.in_part.Goals as goal

pub returns-in-Ok : goal.returns-in-Ok
returns-in-Ok c = inr (c.in-Ok.part, refl, search rules)
