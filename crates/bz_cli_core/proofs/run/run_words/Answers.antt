use Rattle.bz_cli_core.proofs.Spelt.{bad_here, spelt_more}
use Rattle.bz_cli_core.proofs.run.run_words.Goals as goal

pub returns-in_default-clause-err : goal.returns-in_default-clause-err
returns-in_default-clause-err c =
    bad_here c.args.words.now c.loop-place.place _ c.loop-place.cmds.items c.loop-place-test.true c.loop-place.invariant (rw c.in_default.is at c.in_ok-cmd.ensures.none)

pub loop-place-preserved : goal.loop-place-preserved
loop-place-preserved c =
    spelt_more c.args.words.now c.loop-place.place _ c.loop-place.cmds.items c.loop-place-test.true c.loop-place.invariant c.push.new.self.items c.in-Some.cmd (rw c.in-Some.is at c.in_ok-cmd.ensures.some) c.in_ok-push.ensures.items
