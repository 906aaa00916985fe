use Rattle.bz_bits.proofs.Words.{one_place}
use Rattle.bz_bits.proofs.word.one_place.Goals as goal

pub returns : goal.returns
returns c i lt = one_place c.args.place i c.requires
