use Rattle.std.proofs.Common.{◌≡◌, ◌++◌}
use Rattle.bz_page.specs.Sources.{files_rows}
use Rattle.bz_page.proofs.Grown.{rows_found}
use Rattle.bz_page.proofs.net_page.put_told_page.Goals as goal

pub returns : goal.returns
returns g c =
    let is = rows_found _ _ (λ rows. rows ≡ files_rows c.args.files.now ++ c.args.ends.now) c.in-Ok.ensures.ok c.told_rows-told.ensures in
    rw is at c.put_net_page.ensures
