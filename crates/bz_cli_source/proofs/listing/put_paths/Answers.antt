use Rattle.std.proofs.Common.{◌++◌, ◌∙◌, codes, length, map, sym, ap}
use Rattle.std.proofs.lemmas.List.{length-map}
use Rattle.bz_model.specs.Names.{external}
use Rattle.bz_flat.specs.Flats.{site_of}
use Rattle.bz_trace_text.proofs.Printed.{prints_end, prints_then}
use Rattle.bz_source.specs.Views.{path_at_of}
use Rattle.bz_cli_input.specs.Listing.{head_text, lines, ports_text}
use Rattle.bz_cli_source.specs.Listing.{chan_line, chans_text, comp_line, comps_text, count_line, instance_line, instances_text}
use Rattle.bz_cli_source.proofs.listing.put_paths.Goals as goal

pub returns : goal.returns
returns g c =
    let net = c.args.net.now in let s = c.args.s.now in
    let chan_count = sym (length-map c.chans-chans.result.now path_at_of) ∙ ap length c.chans-chans.ensures in
    let instance_count = sym (length-map c.instances-instances.result.now path_at_of) ∙ ap length c.instances-instances.ensures in
    let comp_count = c.len.ensures ∙ sym (length-map net.comps site_of) in
    let chans = prints_then _ _ _ _ _ _ _ _ _ (count_line (codes "channels ") (length s.places.chans)) (lines (chan_line net s) 1 s.places.chans) (rw chan_count at c.print_count.ensures) (rw c.chans-chans.ensures at c.print_chans.ensures) in
    let instances = prints_then _ _ _ _ _ _ _ _ _ (count_line (codes "instances ") (length s.places.instances)) (lines (instance_line s) 1 s.places.instances) (rw instance_count at c.print_count-2.ensures) (rw c.instances-instances.ensures at c.print_instances.ensures) in
    let comps = prints_then _ _ _ _ _ _ _ _ _ (count_line (codes "components ") (length (map site_of net.comps))) (lines (comp_line s) 1 (map site_of net.comps)) (rw comp_count at c.print_count-3.ensures) c.print_comps.ensures in
    let rest = prints_then _ _ _ _ _ _ _ _ _ (instances_text s) (comps_text net s) instances comps in
    let inside = prints_then _ _ _ _ _ _ _ _ _ (chans_text net s) _ chans rest in
    let ports = prints_then _ _ _ _ _ _ _ _ _ (ports_text net.chans (map external net.ports.items)) _ (rw c.deref.ensures.value at c.print_ports.ensures) inside in
    let all = prints_then _ _ _ _ _ _ _ _ _ (head_text c.args.name.now) _ c.print_head.ensures ports in
    prints_end _ _ _ _ _ _ _ _ _ c.new-printer.ensures.failed c.new-printer.ensures.page all c.end.ensures
