use Rattle.std.proofs.Common.{◌∙◌}
use Rattle.bz_bits.proofs.Words.{number_high}
use Rattle.bz_bits.proofs.word.PortWord.is_high.Goals as goal

pub returns : goal.returns
returns c = c.has_bit.ensures ∙ number_high c.args.self c.args.place
