use Rattle.bz_bits.proofs.Rows.{past_below, past_rest}
use Rattle.bz_bits.proofs.row.past.Goals as goal

pub returns-clause-before : goal.returns-clause-before
returns-clause-before c = past_below c.args.word c.args.place c.requires c.ranges.word.fits

pub returns-clause-rest : goal.returns-clause-rest
returns-clause-rest c = past_rest c.args.word c.args.place c.requires c.ranges.word.fits
