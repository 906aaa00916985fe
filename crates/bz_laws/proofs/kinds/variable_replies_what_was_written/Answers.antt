use Rattle.bz_laws.proofs.Cells as cells
use Rattle.bz_laws.proofs.kinds.variable_replies_what_was_written.Goals as goal

pub returns : goal.returns
returns c = cells.law
