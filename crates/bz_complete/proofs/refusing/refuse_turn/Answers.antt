use Rattle.std.proofs.Common.{refl}
use Rattle.bz_complete.proofs.Refusals.{turn_refused}
use Rattle.bz_complete.proofs.refusing.refuse_turn.Goals as goal

pub returns : goal.returns
returns c =
    let busy = rw c.core.ensures.state at (rw c.phase.ensures.phase at (c.is_in_turn.ensures c.if-is_in_turn.false)) in
    (refl, turn_refused c.args.net.now c.args.due c.journal.ensures.wired c.journal.ensures.run c.requires.maker busy)
