use Rattle.std.proofs.Common.{ap, ◌∙◌, reverse, arith}
use Rattle.bz_sexpr.proofs.Trees.{split_reverse}
use Rattle.bz_sexpr.proofs.tree.taken.Goals as goal

pub returns-clause-taken : goal.returns-clause-taken
returns-clause-taken c =
    c.reverse.ensures.items ∙ ap reverse c.in_ok-items.ensures.tail ∙ (split_reverse c.args.made.now.items c.args.count c.saturating_sub.result (omega (arith, c.saturating_sub.ensures, c.len.ensures, c.args.made.now.ok.0))).0

pub returns-clause-left : goal.returns-clause-left
returns-clause-left c =
    ap reverse c.in_ok-items.ensures.items ∙ (split_reverse c.args.made.now.items c.args.count c.saturating_sub.result (omega (arith, c.saturating_sub.ensures, c.len.ensures, c.args.made.now.ok.0))).1
