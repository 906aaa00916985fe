use Rattle.std.proofs.Common.{ap, subst, sym, ◌∙◌}
use Rattle.std.specs.Prelude.{IfSome}
use Rattle.bz_since.specs.Keeping.{IsKept}
use Rattle.bz_cli_waits.specs.Asking.{line_asked}
use Rattle.bz_cli_waits.proofs.behind.find_in.Goals as goal

pub told_of-requires-clause-behind : goal.told_of-requires-clause-behind
told_of-requires-clause-behind c =
    let is = c.in-Ok.ensures.ok.line_is ∙ ap (line_asked c.args.asked) c.line_count-lines.ensures.count in
    subst (λ line. IfSome c.args.kept (IsKept c.args.played.judged.net.wiring c.args.trace.now line)) (sym is) c.requires.behind

pub returns-in-Ok-told_of : goal.returns-in-Ok-told_of
returns-in-Ok-told_of c =
    (c.in-Ok.line, rw (c.line_count-lines.ensures.count, c.comp_count-comps.ensures, c.core.ensures.wiring) at c.in-Ok.ensures.ok, c.in-Ok-told_of.ensures)
