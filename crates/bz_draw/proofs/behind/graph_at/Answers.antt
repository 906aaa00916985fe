use Rattle.std.proofs.Common.{ap, subst, sym, ◌∙◌}
use Rattle.std.specs.Prelude.{IfSome, unwrap_or}
use Rattle.bz_since.specs.Keeping.{IsKept}
use Rattle.bz_draw.proofs.Moments.{no_line}
use Rattle.bz_draw.proofs.behind.graph_at.Goals as goal

pub graph_behind-requires-clause-behind : goal.graph_behind-requires-clause-behind
graph_behind-requires-clause-behind c =
    let is = c.in-Ok.ensures.ok.line_is ∙ ap (unwrap_or c.args.asked) c.line_count-lines.ensures.count in
    subst (λ line. IfSome c.args.kept (IsKept c.args.case.judged.net.wiring c.args.trace.now line)) (sym is) c.requires.behind

pub returns-in-Err : goal.returns-in-Err
returns-in-Err c = no_line c.args.asked _ c.in-Err.fault (rw c.line_count-lines.ensures.count at c.in-Err.ensures.err)
