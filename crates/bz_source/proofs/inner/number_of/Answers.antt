use Rattle.std.proofs.Common.{◌∙◌}
use Rattle.bz_elab.proofs.Numbering.{number_is_first}
use Rattle.bz_source.proofs.inner.number_of.Goals as goal

pub returns : goal.returns
returns c = c.number.ensures ∙ number_is_first c.args.parts.now c.args.name.now
