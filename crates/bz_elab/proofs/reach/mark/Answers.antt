use Rattle.std.proofs.Common.{refl, sym, ◌∙◌}
use Rattle.bz_elab.proofs.Reaching.{marked_new, same_read}
use Rattle.bz_elab.proofs.reach.mark.Goals as goal

pub returns-in_ok-push : goal.returns-in_ok-push
returns-in_ok-push c =
    let clear = same_read c.args.reached.now.marks.items c.args.number _ _ c.requires ∙ (sym c.index.ensures ∙ c.if-not-index.true) in
    marked_new _ _ c.args.number c.requires clear refl c.in_ok-push.ensures.items
