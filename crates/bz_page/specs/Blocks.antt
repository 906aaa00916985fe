-- The parts of a page, as they are handed to the writer.
use Rattle.std.specs.Prelude.{ℕ, List}
use Rattle.bz_page.specs.declared.around.Block.{Block}
use Rattle.bz_page.specs.declared.around.Block.TheVariants.{Plain, Escaped}
use Rattle.bz_page.specs.Escaping.{escaped}

abbrev pub block_text : Block → List ℕ
block_text (Plain text) = text.now
block_text (Escaped text) = escaped text.now
