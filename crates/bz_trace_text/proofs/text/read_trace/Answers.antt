use Rattle.bz_trace_text.specs.Texts.{outcome_of}
use Rattle.bz_trace_text.proofs.Cuts.{only_one}
use Rattle.bz_trace_text.proofs.text.read_trace.Goals as goal

pub returns-clause-only : goal.returns-clause-only
returns-clause-only c = only_one c.args.names.now c.args.text.now (outcome_of c.read_lines.result) (rw c.new-names.ensures at c.read_lines.ensures)
