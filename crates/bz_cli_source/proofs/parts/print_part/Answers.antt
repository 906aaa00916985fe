use Rattle.bz_trace_text.proofs.Printed.{prints_then}
use Rattle.bz_cli_source.specs.PartLists.{counts_text, head_text, instance_count, own_ports_text}
use Rattle.bz_cli_source.proofs.parts.print_part.Goals as goal

pub returns : goal.returns
returns g c =
    let part = c.args.part.now in
    prints_then _ _ _ _ _ _ _ _ _ (head_text part c.args.line c.args.used) _ c.print_head.ensures
    (prints_then _ _ _ _ _ _ _ _ _ (own_ports_text part) (counts_text part (instance_count c.args.parts.now part)) (rw c.as_slice.ensures.value at (rw c.as_slice-2.ensures.value at c.print_ports.ensures)) (rw c.instance_count.ensures at c.print_counts.ensures))
