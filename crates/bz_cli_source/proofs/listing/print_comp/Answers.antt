use Rattle.std.proofs.Common.{sym, ◌+◌}
use Rattle.bz_flat.specs.Flats.{site_of}
use Rattle.bz_source.specs.Views.{path_at_of}
use Rattle.bz_trace_text.proofs.Printed.{printed_nothing}
use Rattle.bz_cli_source.proofs.Lines.{comp_line_is, comp_line_none}
use Rattle.bz_cli_source.proofs.listing.print_comp.Goals as goal

pub returns-in-Some : goal.returns-in-Some
returns-in-Some g c = rw (comp_line_is c.args.s.now (c.args.i + 1) (site_of c.args.comp.now) (path_at_of c.in-Some.place.now) (sym c.in-Some.ensures)) c.print_placed.ensures

pub returns-in-None : goal.returns-in-None
returns-in-None g c = rw (comp_line_none c.args.s.now (c.args.i + 1) (site_of c.args.comp.now) (sym c.in-None.ensures)) (printed_nothing _ _ _)
