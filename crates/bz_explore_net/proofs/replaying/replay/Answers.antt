use Rattle.std.proofs.Common.{List, take, subst, sym}
use Rattle.std.proofs.lemmas.List.{take_more}
use Rattle.std.proofs.lemmas.Result.{err_from_is_err_and}
use Rattle.bz_model.specs.declared.event.Entry.{Entry}
use Rattle.bz_explore_net.specs.Replaying.{IsReplayed}
use Rattle.bz_explore_net.proofs.Replays.{memory_wants, replayed_more, run_at}
use Rattle.bz_explore_net.proofs.replaying.replay.Goals as goal

pub repeat-requires : goal.repeat-requires
repeat-requires c =
    run_at c.args.flat.now.wiring c.args.entries.now c.loop-entry.entry-index _ c.args.limit c.loop-entry.net c.loop-entry-test.true c.requires.run c.loop-entry.invariant

pub loop-entry-preserved : goal.loop-entry-preserved
loop-entry-preserved c =
    subst (λ (es : List Entry). IsReplayed c.args.flat.now.wiring es c.args.limit c.repeat.new.net) (sym (take_more c.args.entries.now c.loop-entry.entry-index _ c.loop-entry-test.true))
    (replayed_more c.args.flat.now.wiring (take c.loop-entry.entry-index c.args.entries.now) _ c.args.limit c.loop-entry.net c.repeat.new.net c.loop-entry.invariant c.in_ok-repeat.ensures.ok)

pub returns-in_err-repeat-clause-err : goal.returns-in_err-repeat-clause-err
returns-in_err-repeat-clause-err c =
    let p = err_from_is_err_and c.from_residual-in_err-repeat.result c.from_residual-in_err-repeat.ensures.1 in
    rw (p.1, p.2) (memory_wants c.args.flat.now.wiring c.args.entries.now c.loop-entry.entry-index c.args.limit c.loop-entry.net c.in_err-repeat.field-0.0 c.loop-entry-test.true c.requires.within c.loop-entry.invariant c.in_err-repeat.ensures.err)
