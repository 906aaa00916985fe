use Rattle.std.proofs.Common.{arith}
use Rattle.std.proofs.lemmas.Result.{err_from_is_err_and}
use Rattle.bz_text.proofs.Sent.{stops_at}
use Rattle.bz_page.specs.Blocks.{block_text}
use Rattle.bz_page.proofs.around.put_blocks.Goals as goal

pub returns-in_err-put_block : goal.returns-in_err-put_block
returns-in_err-put_block g c =
    let p = err_from_is_err_and c.from_residual.result c.from_residual.ensures.1 in
    rw p.1 (stops_at _ _ _ block_text c.args.blocks.now c.loop-block.block-index _ (omega arith) c.loop-block.invariant c.in_err-put_block.ensures)
