use Rattle.std.proofs.Common.{length, map, ◌++◌}
use Rattle.std.proofs.lemmas.List.{length-map}
use Rattle.bz_model.specs.Names.{external}
use Rattle.bz_flat.specs.Flats.{site_of}
use Rattle.bz_trace_text.proofs.Printed.{prints_end, prints_then}
use Rattle.bz_cli_input.specs.Listing.{head_text, ports_text, counts_text, comp_line, lines}
use Rattle.bz_cli_input.proofs.listing.write_list.Goals as goal

pub returns : goal.returns
returns g c =
    let p = c.into_pieces-pieces.result in
    let comps = prints_then _ _ _ _ _ _ _ _ _ (counts_text (length p.chans) (length (map site_of p.comps))) (lines comp_line 1 (map site_of p.comps)) (rw (c.len.ensures, c.len-2.ensures, ← length-map p.comps site_of) at c.print_counts.ensures) c.print_comps.ensures in
    let ports = prints_then _ _ _ _ _ _ _ _ _ (ports_text p.chans (map external p.ports.items)) _ (rw c.deref.ensures.value at c.print_ports.ensures) comps in
    let all = prints_then _ _ _ _ _ _ _ _ _ (head_text c.args.name.now) _ c.print_head.ensures ports in
    rw c.into_pieces-pieces.ensures.wiring (prints_end _ _ _ _ _ _ _ _ _ c.new-printer.ensures.failed c.new-printer.ensures.page all c.end.ensures)
