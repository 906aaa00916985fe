use Rattle.bz_bits.proofs.Search.{through, through_none, word_fits}
use Rattle.bz_bits.proofs.summed.next_word.Goals as goal

pub overflow_mul-block : goal.overflow_mul-block
overflow_mul-block g c = record { fits = word_fits c.args.words.now c.args.blocks.now c.requires c.in-Some-next_block.block c.in-Some-next_block.ensures.2 }

pub returns-in-Some-next_block : goal.returns-in-Some-next_block
returns-in-Some-next_block g c =
    through c.args.words.now c.args.blocks.now c.requires c.args.from c.in-Some-next_block.block c.in_default.ensures c.in-Some-next_block.ensures _ c.next_in_word-in-Some-next_block.ensures

pub returns-in-None : goal.returns-in-None
returns-in-None g c = through_none c.args.words.now c.args.blocks.now c.requires c.args.from c.in_default.ensures c.in-None.ensures
