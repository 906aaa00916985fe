use Rattle.bz_cli_input.proofs.ShortWords.{short_word}
use Rattle.bz_cli_input.proofs.listing.short_word.Goals as goal

pub returns-clause-short : goal.returns-clause-short
returns-clause-short c = rw c.kind_word.ensures (short_word c.args.kind.now)
