use Rattle.std.proofs.Common.{◌≡◌, inr, map, refl, ◌∙◌}
use Rattle.bz_flat.specs.Flats.{site_of}
use Rattle.bz_cli_source.specs.Listing.{paths_text}
use Rattle.bz_page.specs.Pages.{blank_of}
use Rattle.bz_page.specs.Rows.{rows_text}
use Rattle.bz_page.proofs.Grown.{rows_found}
use Rattle.bz_page.proofs.Paged.{page_is}
use Rattle.bz_page.proofs.net_page.put_net_page.Goals as goal

pub returns-in-Ok-write_out : goal.returns-in-Ok-write_out
returns-in-Ok-write_out g c =
    let told = rows_text c.args.survey.now (map site_of c.args.net.now.comps) c.args.ends.now in
    let is = page_is (blank_of c.args.template) _ (paths_text c.args.net.now c.args.survey.now c.args.part.now) c.in-Ok-whole.rows.now told c.args.trace.now
    (c.as_slice.ensures.value ∙ c.in-Ok.ensures) (rows_found _ _ (λ rows. rows ≡ told) c.in-Ok-whole.ensures.ok c.rows_of-rows.ensures) in
    inr (_, is, c.in-Ok-write_out.ensures.ok)

pub returns : goal.returns
returns g c =
    let told = rows_text c.args.survey.now (map site_of c.args.net.now.comps) c.args.ends.now in
    let is = page_is (blank_of c.args.template) _ (paths_text c.args.net.now c.args.survey.now c.args.part.now) c.in-Ok-whole.rows.now told c.args.trace.now
    (c.as_slice.ensures.value ∙ c.in-Ok.ensures) (rows_found _ _ (λ rows. rows ≡ told) c.in-Ok-whole.ensures.ok c.rows_of-rows.ensures) in
    inr (refl, (tt, _, is, c.in-Err.ensures.err))
