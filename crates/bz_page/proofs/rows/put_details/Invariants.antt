use Rattle.std.proofs.Common.{map, take}
use Rattle.bz_text.specs.Growing.{Grows}
use Rattle.bz_flat.specs.Flats.{site_of}
use Rattle.bz_cli_input.specs.Listing.{lines}
use Rattle.bz_page.specs.Rows.{detail_line}
use Rattle.bz_page.proofs.rows.put_details.Given as goal

abbrev pub invariant-loop-place : goal.invariant-loop-place
invariant-loop-place l = Grows l.initial.rows l.rows (lines (detail_line l.survey) 1 (map site_of (take l.place l.comps)))
