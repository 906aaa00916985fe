use Rattle.std.proofs.Common.{None, [], inr, refl, subst}
use Rattle.std.proofs.KnownBytes.{Appends-nil}
use Rattle.std.specs.Option.{option_copied}
use Rattle.std.specs.Prelude.{IfSome}
use Rattle.bz_cli_input.specs.declared.fault.Fault.TheVariants.{Write}
use Rattle.bz_cli_input.specs.Opening.{RefusesNet}
use Rattle.bz_cli_input.proofs.Answered.{cut_short}
use Rattle.bz_draw.specs.Drawing.{HasNet, IsDrawn, IsWhole}
use Rattle.bz_draw.proofs.command.draw_text.Goals as goal

pub returns-in-Err : goal.returns-in-Err
returns-in-Err g c = inr ([], (c.in_ok-graph.ensures.net, refl), Appends-nil _)

pub returns-in_err-send_all : goal.returns-in_err-send_all
returns-in_err-send_all g c =
    let text = c.args.text.now in
    let asked = option_copied c.args.asked in
    let made = rw c.in-Ok.is at c.in_ok-graph.ensures.whole in
    let whole = subst (λ text. IfSome text IsWhole) c.in_ok-whole.ensures.ok made in
    cut_short Write (λ why graph. HasNet text asked × IsDrawn why graph) (RefusesNet text asked) _ _ _ c.from_residual-in_err-send_all.ensures.1 None _ (c.in_ok-graph.ensures.net, whole) c.in_err-send_all.ensures.err

pub returns : goal.returns
returns g c =
    let made = rw c.in-Ok.is at c.in_ok-graph.ensures.whole in
    let whole = subst (λ text. IfSome text IsWhole) c.in_ok-whole.ensures.ok made in
    inr (c.in_ok-whole.field-0.now, (c.in_ok-graph.ensures.net, whole), c.in_ok-send_all.ensures.ok)
