use Rattle.std.proofs.Common.{arith}
use Rattle.bz_page.specs.Sources.{file_rows}
use Rattle.bz_page.proofs.Grown.{grows_all}
use Rattle.bz_page.proofs.sources.put_files.Goals as goal

pub returns : goal.returns
returns c = grows_all file_rows c.args.files.now c.loop-file.file-index _ _ (omega arith) c.loop-file.invariant
