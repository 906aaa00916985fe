use Rattle.std.proofs.Common.{arith}
use Rattle.bz_flat.specs.Flats.{site_of}
use Rattle.bz_page.specs.Rows.{detail_line}
use Rattle.bz_page.proofs.Grown.{grown_line}
use Rattle.bz_page.proofs.rows.put_details.Goals as goal

pub loop-place-preserved : goal.loop-place-preserved
loop-place-preserved c = grown_line (detail_line c.args.survey.now) site_of c.args.comps.now c.loop-place.place c.get.result.now (omega arith) (rw c.at.ensures at c.get.ensures) _ _ _ c.loop-place.invariant c.put_detail_line.ensures
