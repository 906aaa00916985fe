use Rattle.std.proofs.Common.{rules}
use Rattle.bz_view.specs.Outside.{kind_of}
use Rattle.bz_view.proofs.seen.kind_of.Goals as goal

pub returns-in-Some : goal.returns-in-Some
unfolding kind_of
returns-in-Some c = search rules

pub returns-in-None : goal.returns-in-None
unfolding kind_of
returns-in-None c = search rules
