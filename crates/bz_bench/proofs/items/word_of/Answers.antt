use Rattle.std.proofs.Common.{arith}
use Rattle.std.specs.Prelude.{None}
use Rattle.std.proofs.lemmas.Str.Pattern.{strip_prefix_char}
use Rattle.bz_bench.proofs.Spelling.{meaning_sole}
use Rattle.bz_bench.proofs.items.word_of.Goals as goal

pub items_of-requires-clause-file : goal.items_of-requires-clause-file
items_of-requires-clause-file c = strip_prefix_char 64 c.args.word.now None c.in-None.ensures.cases (omega arith)

pub returns-in-None-clause-sole : goal.returns-in-None-clause-sole
returns-in-None-clause-sole c = meaning_sole c.args.word.now
