use Rattle.bz_page.proofs.Told.{begins, ends, goes_on}
use Rattle.bz_page.proofs.sources.put_lines.Goals as goal

pub loop-rest-init : goal.loop-rest-init
loop-rest-init c = begins _ c.args.text.now

pub loop-rest-preserved : goal.loop-rest-preserved
loop-rest-preserved c = goes_on _ _ _ c.args.text.now c.loop-rest.rest.now c.cut_line.result.0.now c.cut_line.result.1.now c.loop-rest.invariant c.cut_line.ensures.lines c.put_text_row.ensures
