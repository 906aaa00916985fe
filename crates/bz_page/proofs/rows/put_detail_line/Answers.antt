use Rattle.std.proofs.Common.{sym}
use Rattle.bz_flat.specs.Flats.{site_of}
use Rattle.bz_source.specs.Views.{detail_of}
use Rattle.bz_page.proofs.Grown.{detail_line_is, detail_line_none, grows_nothing}
use Rattle.bz_page.proofs.rows.put_detail_line.Goals as goal

pub returns-in-Some : goal.returns-in-Some
returns-in-Some c = rw (detail_line_is c.args.survey.now c.args.number (site_of c.args.comp.now) (detail_of c.in-Some.detail) (sym c.in-Some.ensures)) c.put_told_detail.ensures

pub returns-in-None : goal.returns-in-None
returns-in-None c = rw (detail_line_none c.args.survey.now c.args.number (site_of c.args.comp.now) (sym c.in-None.ensures)) (grows_nothing _)
