use Rattle.bz_page.proofs.Told.{told_is}
use Rattle.bz_page.proofs.sources.told_rows.Goals as goal

pub returns : goal.returns
returns c = told_is c.args.files.now c.args.ends.now _ _ (rw c.new-rows.ensures at c.put_files.ensures) c.put_bytes.ensures
