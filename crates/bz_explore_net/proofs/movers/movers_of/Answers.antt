use Rattle.std.proofs.Common.{◌+◌, ◌∙◌, false, length, replicate, ap, arith}
use Rattle.bz_model.specs.Nets.{Wiring}
use Rattle.bz_net.proofs.Opening.{marks_more, marks_none, marks_ready}
use Rattle.bz_explore_net.proofs.movers.movers_of.Goals as goal

pub loop-place-init : goal.loop-place-init
loop-place-init c =
    let n = c.args.net.now in
    let count = c.comp_count-count.ensures ∙ ap (λ (w : Wiring). length w.sites) c.core.ensures.wiring in
    marks_none n.wiring.sites n.state c.in_ok-movers.movers (c.in_ok-movers.ensures ∙ ap (λ k. replicate (k + 1) false) count)

pub loop-place-preserved : goal.loop-place-preserved
loop-place-preserved c = marks_more _ _ _ _ c.loop-place.place c.loop-place.invariant c.look_at.ensures

pub returns : goal.returns
returns c =
    let n = c.args.net.now in
    let count = c.comp_count-count.ensures ∙ ap (λ (w : Wiring). length w.sites) c.core.ensures.wiring in
    let done = c.loop-place-test.false in let to = c.loop-place.auto.place-end in
    marks_ready n.wiring n.state c.loop-place.movers c.loop-place.place (omega (arith, done, to, count)) c.loop-place.invariant
