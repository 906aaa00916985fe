use Rattle.bz_trace_text.proofs.Printed.{prints_end}
use Rattle.bz_cli_source.proofs.parts.put_parts.Goals as goal

pub returns : goal.returns
returns g c = prints_end _ _ _ _ _ _ _ _ _ c.new-printer.ensures.failed c.new-printer.ensures.page c.print_parts.ensures c.end.ensures
