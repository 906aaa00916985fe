use Rattle.std.specs.List.{flat_map}
use Rattle.bz_model.specs.Traces.{clash_text}
use Rattle.bz_trace_text.specs.Writing.{first_lines}
use Rattle.bz_text.proofs.Sent.{writes_after}
use Rattle.bz_trace_text.proofs.trace.put_clashes.Goals as goal

pub returns-clause-whole : goal.returns-clause-whole
returns-clause-whole g c = λ ports start entries begun. writes_after start _ _ _ (first_lines ports entries) (flat_map clash_text c.args.clashes.now) begun c.put_clash_lines.ensures
