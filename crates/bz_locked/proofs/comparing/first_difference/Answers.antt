use Rattle.std.proofs.Common.{arith, true≢false, sym, ap, ◌∙◌}
use Rattle.std.proofs.lemmas.List.{take_all}
use Rattle.bz_locked.specs.Journal.{who_of, same_who, part_of}
use Rattle.bz_model.specs.declared.event.Entry.{Entry}
use Rattle.bz_locked.proofs.Records.{differs_here, differs_after, agrees_more, agrees_still}
use Rattle.bz_locked.proofs.comparing.first_difference.Goals as goal
use Rattle.bz_locked.proofs.comparing.first_difference.Goals.{then-is_of+else-not-is_at, else-is_of}

pub returns-then-not-is_at : goal.returns-then-not-is_at
returns-then-not-is_at c =
    let inv = c.loop-entry.invariant in
    differs_here (λ e. same_who (who_of e) c.args.who) c.args.own.now c.args.journal.now c.loop-entry.at c.loop-entry.entry-index _ inv.agrees inv.within c.loop-entry-test.true
    (sym c.is_of.ensures ∙ c.if-is_of.true)
    (λ has. true≢false (sym (c.is_at.ensures.1 has) ∙ c.if-not-is_at.true))

pub loop-entry-preserved : goal.loop-entry-preserved
loop-entry-preserved c =
    let inv = c.loop-entry.invariant in
    let p = λ (e : Entry). same_who (who_of e) c.args.who in
    elim c.if-is_of.branch [
      | then-is_of+else-not-is_at w ↦
          let r = agrees_more p c.args.own.now c.args.journal.now c.loop-entry.at c.loop-entry.entry-index _ inv.agrees c.loop-entry-test.true
          (sym c.is_of.ensures ∙ w.if-is_of.true) (w.is_at.ensures.0 w.if-not-is_at.false) in
          rw w.at-is record { agrees = r.0; within = omega (arith, r.1); passed = omega (arith, inv.passed) }
      | else-is_of w ↦
          rw w.at-is record {
            agrees = agrees_still p c.args.own.now c.args.journal.now c.loop-entry.at c.loop-entry.entry-index _ inv.agrees c.loop-entry-test.true (sym c.is_of.ensures ∙ w.if-is_of.false);
            within = inv.within;
            passed = omega (arith, inv.passed);
          }
    ]

pub returns-then-at-own : goal.returns-then-at-own
returns-then-at-own c =
    differs_after c.args.own.now (part_of c.args.who c.args.journal.now) c.loop-entry.at (c.loop-entry.invariant.agrees ∙ ap (part_of c.args.who) (take_all c.loop-entry.entry-index c.args.journal.now c.loop-entry-test.false)) c.if-at-own.true
