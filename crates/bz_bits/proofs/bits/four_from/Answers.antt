use Rattle.bz_bits.proofs.Firsts.{none_of_four}
use Rattle.bz_bits.proofs.bits.four_from.Goals as goal

pub returns : goal.returns
returns c none k le lt = none_of_four c.args.words.now c.args.at none k le lt
