use Rattle.std.proofs.Common.{arith, ◌≡◌, length, refl, ◌∙◌, inl, sym}
use Rattle.bz_elab.specs.Entries.{named_in}
use Rattle.bz_elab.proofs.Totaling.{entries_more, capped_is}
use Rattle.bz_elab.proofs.totals.entry_count.Goals as goal
use Rattle.bz_elab.proofs.totals.entry_count.Goals.{in-One, in-Many}

pub loop-entry-preserved : goal.loop-entry-preserved
loop-entry-preserved c =
    let more : c.match-entry.more ≡ length (named_in c.entry-item.result) = elim c.match-entry.branch [
      | in-One w ↦ w.more-is ∙ rw w.in-One.is refl
      | in-Many w ↦ w.more-is ∙ rw w.in-Many.is (omega arith)
    ] in
    record {
      within = c.capped-count.ensures.within;
      is = capped_is _ _ _ _ (sym (entries_more c.args.entries.now c.loop-entry.entry-index c.entry-item.result (omega arith) c.entry-item.is))
          (c.capped-count.ensures.is _ _ c.loop-entry.invariant.is (inl more));
    }
