use Rattle.std.proofs.Common.{◌≡◌, ℕ, Bool, true, Option, List, subst, sym}
use Rattle.std.proofs.lemmas.Result.{err_from_is_err_and}
use Rattle.std.specs.Io.KnownBytes.{Appends}
use Rattle.bz_cli_core.specs.declared.playing.End.TheVariants as end
use Rattle.bz_cli_input.specs.Stopping.{AppendsSome}
use Rattle.bz_cli_core.proofs.Outcomes.{cut_short, fault_wants, told}
use Rattle.bz_cli_core.specs.Sending.{PlaysOut}
use Rattle.bz_cli_core.specs.declared.pending.Pending.{Pending}
use Rattle.bz_cli_core.specs.declared.playing.End.{End}
use Rattle.bz_cli_core.proofs.Pieces.{played_listed, written_out}
use Rattle.bz_model.specs.declared.event.Cmd.{Cmd}
use Rattle.bz_net.specs.Progress.{Progress}
use Rattle.bz_cli_core.proofs.run.play_lent.Goals as goal

listed_out : (old new listed : Progress) (a b : Option (List ℕ)) (before after : Pending) (strict : Bool) (cmds : List Cmd) (end : End) → listed ≡ record new { listed = true } → PlaysOut old new a before b after strict cmds end → PlaysOut old listed a before b after strict cmds end
listed_out old new listed a b before after strict cmds end is p =
    subst (λ (n : Progress). PlaysOut old n a before b after strict cmds end) (sym is) (played_listed old new a b before after strict cmds end p)

pub returns-in_err-finish-clause-plays : goal.returns-in_err-finish-clause-plays
returns-in_err-finish-clause-plays g c =
    let play = c.args.play.now in let o = c.play_out-end in let listed = c.list_clashes.new.self in let p = listed_out c.args.play.now o.new.play listed _ _ c.begin-pending.result o.new.pending c.args.strict c.args.cmds.now _ c.list_clashes.ensures o.ensures.plays in
    let old = g.W.Write.contents c.args.output.now in let begun = g.W.Write.contents c.begin-pending.new.out in
    let new = g.W.Write.contents c.finish.new.out in
    let sent = p.sent old (c.begin-pending.ensures.begun listed.wiring.ports) in
    let puts = rw c.names.ensures.value at c.in_err-finish.ensures in
    let fault = err_from_is_err_and c.from_residual.result c.from_residual.ensures.1 in
    rw fault.1 (cut_short play.wiring play.left c.args.strict c.args.cmds.now old new fault.0 fault.2 o.result
    (written_out play listed begun (g.W.Write.contents o.new.out) c.begin-pending.result o.new.pending c.args.strict c.args.cmds.now o.result p c.clashes.result.now c.clashes.ensures.rising c.clashes.ensures.clashed (AppendsSome old new) (puts old p.entries sent)).0)

pub returns-in-All-clause-plays : goal.returns-in-All-clause-plays
returns-in-All-clause-plays g c =
    let play = c.args.play.now in let o = c.play_out-end in let listed = c.list_clashes.new.self in let p = listed_out c.args.play.now o.new.play listed _ _ c.begin-pending.result o.new.pending c.args.strict c.args.cmds.now _ c.list_clashes.ensures c.in-All.ensures.plays in
    let old = g.W.Write.contents c.args.output.now in let begun = g.W.Write.contents c.begin-pending.new.out in
    let new = g.W.Write.contents c.finish.new.out in
    let sent = p.sent old (c.begin-pending.ensures.begun listed.wiring.ports) in
    let puts = rw c.names.ensures.value at c.in_ok-finish.ensures in
    written_out play listed begun (g.W.Write.contents o.new.out) c.begin-pending.result o.new.pending c.args.strict c.args.cmds.now end.All p c.clashes.result.now c.clashes.ensures.rising c.clashes.ensures.clashed (Appends old new) (puts old p.entries sent)

pub returns-in-Halt-clause-plays : goal.returns-in-Halt-clause-plays
returns-in-Halt-clause-plays g c =
    let play = c.args.play.now in let o = c.play_out-end in let listed = c.list_clashes.new.self in let p = listed_out c.args.play.now o.new.play listed _ _ c.begin-pending.result o.new.pending c.args.strict c.args.cmds.now _ c.list_clashes.ensures c.in-Halt.ensures.plays in let halt = c.in-Halt.halt in
    let old = g.W.Write.contents c.args.output.now in let begun = g.W.Write.contents c.begin-pending.new.out in
    let new = g.W.Write.contents c.finish.new.out in
    let sent = p.sent old (c.begin-pending.ensures.begun listed.wiring.ports) in
    let puts = rw c.names.ensures.value at c.in_ok-finish.ensures in
    written_out play listed begun (g.W.Write.contents o.new.out) c.begin-pending.result o.new.pending c.args.strict c.args.cmds.now (end.Halt halt) p c.clashes.result.now c.clashes.ensures.rising c.clashes.ensures.clashed (Appends old new) (puts old p.entries sent)

pub returns-clause-plays : goal.returns-clause-plays
returns-clause-plays g c =
    let play = c.args.play.now in let o = c.play_out-end in let listed = c.list_clashes.new.self in let p = listed_out c.args.play.now o.new.play listed _ _ c.begin-pending.result o.new.pending c.args.strict c.args.cmds.now _ c.list_clashes.ensures c.in-Stop.ensures.plays in let stop = c.in-Stop.stop in
    let old = g.W.Write.contents c.args.output.now in let begun = g.W.Write.contents c.begin-pending.new.out in
    let new = g.W.Write.contents c.finish.new.out in
    let sent = p.sent old (c.begin-pending.ensures.begun listed.wiring.ports) in
    let puts = rw c.names.ensures.value at c.in_ok-finish.ensures in
    rw c.fault_of.ensures (told play.wiring play.left c.args.strict c.args.cmds.now old new stop.word stop.error
    (written_out play listed begun (g.W.Write.contents o.new.out) c.begin-pending.result o.new.pending c.args.strict c.args.cmds.now (end.Stop stop) p c.clashes.result.now c.clashes.ensures.rising c.clashes.ensures.clashed (Appends old new) (puts old p.entries sent)).0)

pub returns-clause-memory : goal.returns-clause-memory
returns-clause-memory g c = rw c.fault_of.ensures (fault_wants c.in-Stop.stop.word c.in-Stop.stop.error (c.play_out-end.ensures.memory c.in-Stop.stop c.in-Stop.is))

pub returns-in_err-finish-clause-memory : goal.returns-in_err-finish-clause-memory
returns-in_err-finish-clause-memory g c =
    let fault = err_from_is_err_and c.from_residual.result c.from_residual.ensures.1 in
    rw fault.1 (λ is. cc (is, fault.2))
