use Rattle.std.proofs.Common.{◌∙◌}
use Rattle.bz_net.proofs.Clashing.{watches_opening}
use Rattle.bz_net.proofs.Entering.{told_opening}
use Rattle.bz_net.proofs.play.Play.of.Goals as goal

pub returns-in-Ok-clause-told : goal.returns-in-Ok-clause-told
returns-in-Ok-clause-told c = told_opening c.args.core.wiring c.args.core.state c.in-Ok.noted c.args.limit c.requires.opened c.in-Ok.ensures.numbers

pub invariant_of-result : goal.invariant_of-result
invariant_of-result c = record {
  wired = c.requires.wired;
  most = c.in-Ok.ensures.most ∙ c.comp_count.ensures;
  watches = watches_opening c.args.core.wiring c.args.core.state c.in-Ok.noted c.comp_count.result c.requires.opened c.in-Ok.ensures.asked;
}
