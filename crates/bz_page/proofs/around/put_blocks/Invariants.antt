use Rattle.std.proofs.Common.{take}
use Rattle.std.specs.List.{flat_map}
use Rattle.std.specs.Io.KnownBytes.{Appends}
use Rattle.bz_page.specs.Blocks.{block_text}
use Rattle.bz_page.proofs.around.put_blocks.Given as goal

abbrev pub invariant-loop-block : goal.invariant-loop-block
invariant-loop-block g l = Appends (g.W.Write.contents l.initial.out) (g.W.Write.contents l.out) (flat_map block_text (take l.block-index l.blocks))
