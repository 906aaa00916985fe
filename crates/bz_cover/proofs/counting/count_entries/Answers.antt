use Rattle.std.proofs.Common.{subst, sym, take}
use Rattle.std.proofs.lemmas.List.{take_more}
use Rattle.bz_cover.specs.Counts.{CountsOn}
use Rattle.bz_cover.proofs.Tallies.{then}
use Rattle.bz_cover.proofs.counting.count_entries.Goals as goal

pub loop-entry-preserved : goal.loop-entry-preserved
loop-entry-preserved c =
    let before = take c.loop-entry.entry-index c.args.entries.now in
    subst (λ es. CountsOn c.args.coverage.now es c.add.new.self) (sym (take_more c.args.entries.now c.loop-entry.entry-index _ c.loop-entry-test.true))
    (then c.args.coverage.now c.loop-entry.coverage c.add.new.self before _ c.loop-entry.invariant c.add.ensures)
