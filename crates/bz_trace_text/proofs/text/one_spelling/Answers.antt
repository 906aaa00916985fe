use Rattle.bz_trace_text.proofs.Cuts.{lines_tell}
use Rattle.bz_trace_text.proofs.text.one_spelling.Goals as goal

pub returns : goal.returns
returns c = lines_tell
