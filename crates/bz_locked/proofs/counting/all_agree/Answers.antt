use Rattle.std.proofs.Common.{List, take, replicate, arith, sym, subst}
use Rattle.std.proofs.lemmas.List.{take_all, take_more, length-take, get_or-replicate}
use Rattle.bz_model.specs.declared.event.Entry.{Entry}
use Rattle.bz_locked.specs.Counting.{HaveMet, HaveFired}
use Rattle.bz_locked.proofs.Counted.{met_none, fired_none}
use Rattle.bz_locked.proofs.counting.all_agree.Goals as goal

pub loop-entry-init : goal.loop-entry-init
loop-entry-init g c = record {
  met = met_none c.args.sessions.now (replicate 256 0) (λ k within. get_or-replicate 256 k 0 0 (omega (arith, within)));
  fired = fired_none (replicate 256 0) (λ k within. get_or-replicate 256 k 0 0 (omega (arith, within)));
}

pub loop-entry-preserved : goal.loop-entry-preserved
loop-entry-preserved g c =
    let i = c.loop-entry.entry-index in
    let journal = c.args.journal.now in
    let more = sym (take_more journal i _ c.loop-entry-test.true) in
    record {
      met = subst (λ (l : List Entry). HaveMet c.args.sessions.now l c.goes_on.new.met) more (c.goes_on.ensures c.if-not-goes_on.false (take i journal) c.loop-entry.invariant.met);
      fired = subst (λ (l : List Entry). HaveFired l c.count_firing.new.fired) more (c.count_firing.ensures (take i journal) (omega (arith, length-take i journal)) c.loop-entry.invariant.fired);
    }

pub returns-then-have_ended : goal.returns-then-have_ended
returns-then-have_ended g c agree =
    let journal = c.args.journal.now in
    let all = take_all c.loop-entry.entry-index journal c.loop-entry-test.false in (
      c.have_ended.ensures journal c.if-have_ended.true (subst (λ (l : List Entry). HaveMet c.args.sessions.now l c.loop-entry.met) all c.loop-entry.invariant.met),
      c.have_fired.ensures journal agree (subst (λ (l : List Entry). HaveFired l c.loop-entry.fired) all c.loop-entry.invariant.fired),
    )
