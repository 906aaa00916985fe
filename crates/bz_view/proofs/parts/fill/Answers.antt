use Rattle.bz_view.proofs.Lines.{blanks_grow}
use Rattle.bz_view.proofs.parts.fill.Goals as goal

pub returns : goal.returns
returns c = blanks_grow c.args.column _ _ c.fill.ensures
