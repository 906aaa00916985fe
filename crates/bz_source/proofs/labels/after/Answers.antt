use Rattle.std.proofs.Common.{◌≡◌, ◌+◌, ◌-◌, ◌∙◌, suc, sym, ap, drop, arith}
use Rattle.bz_sexpr.specs.Forms.{forms_view}
use Rattle.bz_source.proofs.Fronts.{drop_one}
use Rattle.bz_source.proofs.labels.after.Goals as goal

pub loop-preserved : goal.loop-preserved
loop-preserved c =
    let left : c.args.count - c.loop.counter ≡ suc (c.args.count - (c.loop.counter + 1)) = omega (arith, c.loop-test.true) in
    c.loop.invariant ∙ drop_one (forms_view c.loop.rest) (c.args.count - c.loop.counter) (c.args.count - (c.loop.counter + 1)) left
    ∙ ap (drop (c.args.count - (c.loop.counter + 1))) (sym c.after_first-rest.ensures)
