use Rattle.std.proofs.Common.{◌∙◌}
use Rattle.bz_breeze.proofs.Heads.{inside_is}
use Rattle.bz_breeze.proofs.forms.inside.Goals as goal

pub returns : goal.returns
returns c = c.items.ensures ∙ inside_is _
