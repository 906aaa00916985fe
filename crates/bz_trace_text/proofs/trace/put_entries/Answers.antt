use Rattle.std.proofs.Common.{codes}
use Rattle.bz_model.specs.Traces.{line_text}
use Rattle.bz_text.proofs.Sent.{pieces}
use Rattle.bz_trace_text.proofs.trace.put_entries.Goals as goal

pub returns-clause-pieces : goal.returns-clause-pieces
returns-clause-pieces g c = λ start so_far begun. pieces start _ _ _ (line_text c.args.names.now.ports) (codes "trace 2\n") so_far c.args.entries.now begun c.put_lines.ensures
