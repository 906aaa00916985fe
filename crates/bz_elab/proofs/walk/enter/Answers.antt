use Rattle.std.proofs.Common.{arith, ◌∙◌}
use Rattle.bz_elab.proofs.Growing.{drop_push, pushed}
use Rattle.bz_elab.proofs.walk.enter.Goals as goal

pub loop-i-preserved : goal.loop-i-preserved
loop-i-preserved c =
    let inv = c.loop-i.invariant in
    let p = c.args.ports in
    let i = c.loop-i.i in
    let xs = c.args.part.now.channels.items in
    let old = c.args.draft.now.chans in
    let added = c.in_ok-push_chan.ensures in
    let more = drop_push xs p i c.index.result.now c.loop-i.auto.i (omega arith) in
    record {
      within = c.push_chan.ensures.within;
      chans_are = pushed old _ _ _ _ _ _ added.chans inv.chans_are c.index.ensures more;
      comps_are = c.push_chan.ensures.comps ∙ inv.comps_are;
      ends_are = c.push_chan.ensures.ends ∙ inv.ends_are;
    }
