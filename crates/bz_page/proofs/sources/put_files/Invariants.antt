use Rattle.std.proofs.Common.{take}
use Rattle.std.specs.List.{flat_map}
use Rattle.bz_text.specs.Growing.{Grows}
use Rattle.bz_page.specs.Sources.{file_rows}
use Rattle.bz_page.proofs.sources.put_files.Given as goal

abbrev pub invariant-loop-file : goal.invariant-loop-file
invariant-loop-file l = Grows l.initial.rows l.rows (flat_map file_rows (take l.file-index l.files))
