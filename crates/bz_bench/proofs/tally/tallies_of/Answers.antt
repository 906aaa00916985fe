use Rattle.std.proofs.Common.{◌∙◌, List, sym, subst, take}
use Rattle.std.proofs.lemmas.List.{take_more}
use Rattle.bz_model.specs.declared.event.Entry.{Entry}
use Rattle.bz_bench.specs.Tallies.{Tells}
use Rattle.bz_bench.proofs.tally.tallies_of.Goals as goal

pub loop-entry-preserved : goal.loop-entry-preserved
loop-entry-preserved c =
    let entries = c.args.entries.now in let i = c.loop-entry.entry-index in record {
      count = c.note.ensures.count ∙ c.loop-entry.invariant.count;
      told = subst (λ (es : List Entry). Tells es c.note.new.tallies.items) (sym (take_more entries i _ c.loop-entry-test.true))
          (c.in_ok-note.ensures.told (take i entries) c.loop-entry.invariant.told);
    }
