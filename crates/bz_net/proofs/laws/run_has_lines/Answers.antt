use Rattle.bz_net.proofs.Lines.{run_has_lines}
use Rattle.bz_net.proofs.laws.run_has_lines.Goals as goal

pub returns : goal.returns
returns c = run_has_lines
