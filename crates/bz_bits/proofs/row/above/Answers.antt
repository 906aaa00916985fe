use Rattle.bz_bits.proofs.Rows.{above_below, above_rest}
use Rattle.bz_bits.proofs.row.above.Goals as goal

pub returns-clause-below : goal.returns-clause-below
returns-clause-below c = above_below c.args.word c.args.place c.requires c.ranges.word.fits

pub returns-clause-rest : goal.returns-clause-rest
returns-clause-rest c = above_rest c.args.word c.args.place c.requires c.ranges.word.fits
