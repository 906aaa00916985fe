use Rattle.std.proofs.Common.{None, [], sym, subst}
use Rattle.std.specs.Prelude.{IfOk, IfErr}
use Rattle.bz_model.specs.declared.event.Cmd.{Cmd}
use Rattle.bz_model.specs.declared.event.Who.TheVariants as who
use Rattle.bz_net.specs.declared.event.RunEnd.{RunEnd}
use Rattle.bz_net.specs.Progress.{with_journal}
use Rattle.bz_net.specs.Running.{Ran}
use Rattle.bz_cli_core.specs.Playing.{PlaysOne, StopsOne}
use Rattle.bz_cli_core.specs.Sending.{GoesOut}
use Rattle.bz_cli_core.proofs.Words.{fires_all, firing_stops, rests_before}
use Rattle.bz_cli_core.proofs.Pieces.{entry_wants, goes_as}
use Rattle.bz_cli_core.proofs.playing.word_out.Goals as goal

pub returns-in-Host-clause-ok : goal.returns-in-Host-clause-ok
returns-in-Host-clause-ok g c =
    let o = c.command_out in
    subst (λ (w : Cmd). IfOk o.result (λ refusal. GoesOut c.args.play.now o.new.play (g.W.Write.contents c.args.out.now) c.args.pending.now (g.W.Write.contents o.new.out) o.new.pending (λ x y. PlaysOne x y w refusal))) (sym c.in-Host.is) o.ensures.ok

pub returns-in-Host-clause-err : goal.returns-in-Host-clause-err
returns-in-Host-clause-err g c =
    let o = c.command_out in
    subst (λ (w : Cmd). IfErr o.result (λ e. GoesOut c.args.play.now o.new.play (g.W.Write.contents c.args.out.now) c.args.pending.now (g.W.Write.contents o.new.out) o.new.pending (λ x y. StopsOne x y w e))) (sym c.in-Host.is) o.ensures.err

pub returns-in-Rest-clause-ok : goal.returns-in-Rest-clause-ok
returns-in-Rest-clause-ok g c =
    let o = c.run_out in let fuel = c.in-Run.fuel in
    goes_as c.args.play.now o.new.play (g.W.Write.contents c.args.out.now) (g.W.Write.contents o.new.out) c.args.pending.now o.new.pending (λ x y. Ran x y (who.Worker 1) 1 fuel o.result) (λ x y. PlaysOne x y c.args.cmd.now None)
    (λ x y ran. subst (λ (w : Cmd). PlaysOne x y w None) (sym c.in-Run.is) (rests_before x y fuel c.in-Rest.field-0 (subst (λ (e : RunEnd). Ran x y (who.Worker 1) 1 fuel e) c.in-Rest.is ran)))
    o.ensures.goes

pub returns-in-Spent-clause-ok : goal.returns-in-Spent-clause-ok
returns-in-Spent-clause-ok g c =
    let o = c.run_out in let fuel = c.in-Run.fuel in
    goes_as c.args.play.now o.new.play (g.W.Write.contents c.args.out.now) (g.W.Write.contents o.new.out) c.args.pending.now o.new.pending (λ x y. Ran x y (who.Worker 1) 1 fuel o.result) (λ x y. PlaysOne x y c.args.cmd.now None)
    (λ x y ran. subst (λ (w : Cmd). PlaysOne x y w None) (sym c.in-Run.is) (fires_all x y fuel c.in-Spent.field-0 (subst (λ (e : RunEnd). Ran x y (who.Worker 1) 1 fuel e) c.in-Spent.is ran)))
    o.ensures.goes

pub returns-in-Refused-clause-err : goal.returns-in-Refused-clause-err
returns-in-Refused-clause-err g c =
    let o = c.run_out in let fuel = c.in-Run.fuel in let e = c.in-Refused.error in
    goes_as c.args.play.now o.new.play (g.W.Write.contents c.args.out.now) (g.W.Write.contents o.new.out) c.args.pending.now o.new.pending (λ x y. Ran x y (who.Worker 1) 1 fuel o.result) (λ x y. StopsOne x y c.args.cmd.now e)
    (λ x y ran. subst (λ (w : Cmd). StopsOne x y w e) (sym c.in-Run.is) (firing_stops x y fuel c.in-Refused.field-0 e (subst (λ (end : RunEnd). Ran x y (who.Worker 1) 1 fuel end) c.in-Refused.is ran)))
    o.ensures.goes

pub returns-in-Refused-clause-memory : goal.returns-in-Refused-clause-memory
returns-in-Refused-clause-memory g c =
    let o = c.run_out in let goes = o.ensures.goes in let new = with_journal o.new.play goes.entries in
    let ran = subst (λ (end : RunEnd). Ran (with_journal c.args.play.now []) new (who.Worker 1) 1 c.in-Run.fuel end) c.in-Refused.is (goes.made []) in
    entry_wants o.new.play goes.entries c.in-Refused.error ran.1.2
